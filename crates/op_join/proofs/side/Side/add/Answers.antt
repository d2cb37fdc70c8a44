use Rattle.std.proofs.Common.{sym, ◌∙◌, subst, List}
use Rattle.ds_schema.specs.Rows.{cols}
use Rattle.op_base.specs.Columns.{Row}
use Rattle.op_join.specs.Waiting.{IsRun}
use Rattle.op_join.proofs.Pieces.{run_more, run_then}
use Rattle.op_join.proofs.side.Side.add.Goals as goal

pub returns-in_ok-push-clause-run : goal.returns-in_ok-push-clause-run
returns-in_ok-push-clause-run c =
    let P : List Row → Type 0 = λ rows. IsRun (cols c.args.keys.now) rows c.args.self.now.next in
    subst P (sym c.in_ok-push.ensures.items) (run_more c.args.keys.now c.args.self.now.run.items c.args.self.now.next c.args.row c.requires.open c.requires.run (sym c.is_same.ensures ∙ c.if-is_same.true))

pub returns-else-is_same-clause-run : goal.returns-else-is_same-clause-run
returns-else-is_same-clause-run c = run_then c.args.keys.now c.args.self.now.run.items c.args.self.now.next c.args.row c.requires.run (sym c.is_same.ensures ∙ c.if-is_same.false)
