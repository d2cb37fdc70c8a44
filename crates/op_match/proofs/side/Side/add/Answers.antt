use Rattle.std.proofs.Common.{sym, ◌∙◌, subst, List}
use Rattle.ds_schema.specs.Rows.{cols}
use Rattle.op_base.specs.Columns.{Row}
use Rattle.op_match.specs.Waiting.{IsRun}
use Rattle.op_match.proofs.Pieces.{run_more, run_then}
use Rattle.op_match.proofs.side.Side.add.Goals as goal

pub returns-in_ok-push-clause-ready : goal.returns-in_ok-push-clause-ready
returns-in_ok-push-clause-ready c =
    let P : List Row → Type 0 = λ rows. IsRun (cols c.args.self.now.keys) rows c.args.self.now.next in
    subst P (sym c.in_ok-push.ensures.ok) (run_more c.args.self.now.keys c.args.self.now.run c.args.self.now.next c.args.row c.requires.open c.requires.ready (sym c.is_same.ensures ∙ c.if-is_same.true))

pub returns-else-is_same-clause-ready : goal.returns-else-is_same-clause-ready
returns-else-is_same-clause-ready c = run_then c.args.self.now.keys c.args.self.now.run c.args.self.now.next c.args.row c.requires.ready (sym c.is_same.ensures ∙ c.if-is_same.false)
