use Rattle.std.proofs.Common.{◌∙◌, ◌++◌, length, sym, ap, arith}
use Rattle.std.specs.Prelude.{Result, Ok, Err}
use Rattle.std.specs.Result.{OnErr}
use Rattle.std.proofs.lemmas.List.{take_all}
use Rattle.flow_outputs.proofs.transfer.print.Goals as goal

failed : {A B P : Type 0} (r : Result A B) → P → OnErr r P
failed (Ok x) p = tt
failed (Err e) p = p

pub returns-clause-err : goal.returns-clause-err
returns-clause-err g c = λ tells.
    let bytes = c.args.bytes.now in
    failed c.finish.result (length bytes, c.finish.ensures.held ∙ c.in_ok-write_whole.ensures.ok tells ∙ ap (λ l. g.K.Sink.held c.args.sink.now ++ l) (sym (take_all (length bytes) bytes (omega arith))))
