use Rattle.std.proofs.Common.{◌<◌}
use Rattle.flow_shape.proofs.Orders.{undone, follows_end, undone_less, ready_undone}
use Rattle.flow_shape.proofs.sequence.order.Goals as goal

pub loop-i-smaller : goal.loop-i-smaller
loop-i-smaller c =
    let low = rw c.as_slice.ensures.value at c.in-Some.ensures.found in
    let less : undone c.args.count c.push.new.self.items < undone c.args.count c.loop-i.done.items =
    rw c.in_ok-push.ensures.items (undone_less c.args.count c.loop-i.done.items c.in-Some.i low.0 (ready_undone c.args.links.now c.loop-i.done.items c.in-Some.i low.1)) in
    less

pub returns : goal.returns
returns c = follows_end c.args.count c.args.links.now c.loop-i.done.items (rw c.as_slice.ensures.value at c.in_default.ensures.none) c.loop-i.invariant
