use Rattle.std.proofs.Common.{◌∷◌, [], ap, ◌∙◌, ◌+◌, arith, length, length-append}
use Rattle.op_collect.specs.declared.merging.Lane.TheVariants as lane
use Rattle.op_collect.specs.Merging.{asks_at}
use Rattle.op_collect.proofs.Lanes.{asks_more}
use Rattle.op_collect.proofs.merging.empty_lanes.Goals as goal

pub loop-port-preserved : goal.loop-port-preserved
loop-port-preserved c =
    let long = c.loop-port.invariant.long in
    record {
      long = ap length c.in_ok-push.ensures.items ∙ length-append c.loop-port.lanes.items (lane.Empty ∷ []) ∙ ap (λ k. k + 1) long;
      empty = λ i lt. ap (λ ls. asks_at ls i) c.in_ok-push.ensures.items ∙ asks_more c.loop-port.lanes.items i (λ j lj. c.loop-port.invariant.empty j (omega (arith, lj, long))) (omega (arith, lt, long));
    }
