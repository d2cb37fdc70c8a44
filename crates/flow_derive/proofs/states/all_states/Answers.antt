use Rattle.std.proofs.Common.{◌<◌, ◌≤◌, ◌∙◌, ap, get_or, length, subst, sym}
use Rattle.flow_derive.proofs.Fills.{all_known, known_more}
use Rattle.flow_derive.proofs.states.all_states.Goals as goal

pub loop-op-preserved : goal.loop-op-preserved
loop-op-preserved c =
    let fills = c.in_ok-fill.ensures in
    record {
      each = fills.each ∙ c.loop-op.invariant.each;
      known = known_more c.args.shaped.now c.is_shaped.ensures c.loop-op.op-index (get_or c.order-order.result.now c.loop-op.op-index 0) c.loop-op.states.items c.fill.new.states.items (subst (λ os. c.loop-op.op-index < length os) c.order-order.ensures c.loop-op-test.true) (ap (λ os. get_or os c.loop-op.op-index 0) (sym c.order-order.ensures)) fills c.loop-op.invariant.known;
    }

pub returns : goal.returns
returns c = all_known c.args.shaped.now c.is_shaped.ensures c.loop-op.op-index c.loop-op.states.items (subst (λ os. length os ≤ c.loop-op.op-index) c.order-order.ensures c.loop-op-test.false) c.loop-op.invariant.each c.loop-op.invariant.known
