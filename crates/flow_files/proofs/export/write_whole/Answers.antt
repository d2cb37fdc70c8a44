use Rattle.std.proofs.Common.{◌-◌, ◌++◌, length, take, drop, sym, ap, ◌∙◌, append_assoc, arith, length-drop, length-take}
use Rattle.std.proofs.lemmas.List.{take_all}
use Rattle.std.proofs.Math.Seq.{take-add}
use Rattle.flow_files.proofs.export.write_whole.Goals as goal

pub loop-at-preserved : goal.loop-at-preserved
loop-at-preserved g c =
    let bytes = c.args.bytes.now in
    let at = c.loop-at.at in
    let n = c.in_ok-at.field-0 in
    let rest = take_all (length bytes - at) (drop at bytes) (omega (arith, length-drop at bytes)) in
    record {
      within = omega (arith, c.in_ok-at.ensures.bound, length-take n (take (length bytes - at) (drop at bytes)), ap length rest, length-drop at bytes);
      told = λ tells. c.in_ok-at.ensures.appended tells ∙ ap (λ l. g.K.Sink.held c.loop-at.sink ++ take n l) rest
          ∙ ap (λ l. l ++ take n (drop at bytes)) (c.loop-at.invariant.told tells) ∙ append_assoc (g.K.Sink.held c.args.sink.now) (take at bytes) (take n (drop at bytes))
          ∙ ap (λ l. g.K.Sink.held c.args.sink.now ++ l) (sym (take-add at n bytes));
      name = c.write.ensures.name ∙ c.loop-at.invariant.name;
      later = omega (arith, c.write.ensures.cause.later);
    }
