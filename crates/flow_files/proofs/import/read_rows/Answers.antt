use Rattle.std.proofs.Common.{◌∙◌, Ok, Bool, List, ap, subst, sym, arith}
use Rattle.ds_text.specs.Readers.{remaining}
use Rattle.op_base.specs.Columns.{Row}
use Rattle.flow_files.specs.Steps.{TakesAll}
use Rattle.flow_files.proofs.Underway.{stepped, ended}
use Rattle.flow_files.proofs.import.read_rows.Goals as goal

pub loop-run-preserved : goal.loop-run-preserved
loop-run-preserved g c = record {
  told = λ reads few. stepped c.args.form.now c.args.schema.now c.args.op c.args.rejects (remaining c.args.lines.now) _ _ _ _ _ _ _ few (c.loop-run.invariant.told reads few)
      (c.step.ensures.more reads (c.in_ok-step.was ∙ ap (λ (b : Bool). Ok b) c.if-branch.true));
  fit = c.in_ok-step.ensures.fit c.loop-run.invariant.fit;
  lines = c.in_ok-step.ensures.lines c.loop-run.invariant.lines;
  none = λ r. ap (λ v. v.items) (c.step.ensures.none r) ∙ c.loop-run.invariant.none r;
  later = omega (arith, c.step.ensures.cause.later, c.loop-run.invariant.later);
}

pub returns-clause-told : goal.returns-clause-told
returns-clause-told g c = λ reads few.
    let is = ended c.args.form.now c.args.schema.now c.args.op c.args.rejects (remaining c.args.lines.now) _ _ _ _ _ _ (c.loop-run.invariant.told reads few)
    (c.step.ensures.ended reads (c.in_ok-step.was ∙ ap (λ (b : Bool). Ok b) c.if-branch.false)) in
    subst (λ (rows : List Row). TakesAll c.args.form.now c.args.schema.now c.args.op c.args.rejects (remaining c.args.lines.now) rows c.from_vec-2.result c.args.tally.now c.step.new.tally) (sym c.from_vec.ensures)
    (subst (λ (rejected : List Row). TakesAll c.args.form.now c.args.schema.now c.args.op c.args.rejects (remaining c.args.lines.now) c.step.new.run.rows.items rejected c.args.tally.now c.step.new.tally) (sym c.from_vec-2.ensures) is)
