use Rattle.op_match.specs.Merged.{joined}
use Rattle.op_match.proofs.Pairing.{sent_next}
use Rattle.op_match.proofs.layout.Layout.send_masters.Goals as goal

pub loop-row-preserved : goal.loop-row-preserved
loop-row-preserved c = sent_next 0 (joined c.args.self.now c.args.updates.now) _ _ _ c.args.rows.now c.loop-row.row-index c.row-item.result _ c.loop-row-test.true c.row-item.is c.loop-row.invariant c.in_ok-joined.ensures c.in_ok-send.ensures.ok
