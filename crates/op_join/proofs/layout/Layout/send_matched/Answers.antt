use Rattle.std.proofs.Common.{map}
use Rattle.op_join.specs.Waiting.{meant, left_row}
use Rattle.op_join.proofs.Pieces.{sent_all_next}
use Rattle.op_join.proofs.layout.Layout.send_matched.Goals as goal

pub loop-a-preserved : goal.loop-a-preserved
loop-a-preserved c = sent_all_next (λ a. map (λ b. left_row (meant c.args.self.now) b a) c.args.rights.now) _ _ _ c.args.lefts.now c.loop-a.a-index c.a-item.result c.loop-a-test.true c.a-item.is c.loop-a.invariant c.in_ok-send_pairs.ensures
