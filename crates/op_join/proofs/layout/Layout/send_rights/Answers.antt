use Rattle.op_join.specs.Waiting.{meant, right_row}
use Rattle.op_join.proofs.Pieces.{sent_next}
use Rattle.op_join.proofs.layout.Layout.send_rights.Goals as goal

pub loop-b-preserved : goal.loop-b-preserved
loop-b-preserved c = sent_next (right_row (meant c.args.self.now)) _ _ _ c.args.rights.now c.loop-b.b-index c.b-item.result _ c.loop-b-test.true c.b-item.is c.loop-b.invariant c.in_ok-right_row.ensures c.in_ok-send.ensures.ok
