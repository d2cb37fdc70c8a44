use Rattle.op_match.specs.Changed.{with_code}
use Rattle.op_match.proofs.Pairing.{sent_next}
use Rattle.op_match.proofs.change.Changes.send_left_over.Goals as goal

pub loop-row-preserved : goal.loop-row-preserved
loop-row-preserved c = sent_next 0 (with_code c.args.change) _ _ _ c.args.rows.now c.loop-row.row-index c.row-item.result _ c.loop-row-test.true c.row-item.is c.loop-row.invariant c.in_ok-with_code.ensures c.in_ok-send.ensures.ok
