use Rattle.op_match.proofs.Pairing.{sent_same}
use Rattle.op_match.proofs.layout.Layout.send_rows.Goals as goal

pub loop-row-preserved : goal.loop-row-preserved
loop-row-preserved c = sent_same c.args.port _ _ _ c.args.rows.now c.loop-row.row-index c.row-item.result _ c.loop-row-test.true c.row-item.is c.loop-row.invariant c.in_ok-copy_row.ensures c.in_ok-send.ensures.ok
