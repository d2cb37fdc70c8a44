use Rattle.std.proofs.Common.{sym, subst, List, ℕ}
use Rattle.std.specs.Prelude.{Result, Ok, Err}
use Rattle.std.specs.Result.{IfOk}
use Rattle.ds_text.specs.Readers.{remaining}
use Rattle.flow_files.specs.Steps.{AreFew}
use Rattle.flow_files.proofs.FewLines.{few_lines}
use Rattle.flow_files.proofs.Underway.{of_file}
use Rattle.flow_files.proofs.import.import_rows.Goals as goal

onto : {X E : Type 0} (P Q : X → Type 0) (r : Result X E) → ((x : X) → P x → Q x) → IfOk r P → IfOk r Q
onto P Q (Ok x) f p = f x p
onto P Q (Err e) f p = tt

pub returns-clause-told : goal.returns-clause-told
returns-clause-told g c = λ tells.
    let bytes : List ℕ = g.S.Source.rest c.args.source in
    onto _ _ c.read_rows-made.result (λ made t. of_file c.args.form.now c.args.schema.now c.args.op c.args.rejects bytes (remaining c.new-lines.result) made.rows made.rejected c.args.tally.now c.read_rows-made.new.tally c.new-lines.ensures.lines t)
    (c.read_rows-made.ensures.told tells (subst AreFew (sym c.new-lines.ensures.lines) (few_lines bytes)))
