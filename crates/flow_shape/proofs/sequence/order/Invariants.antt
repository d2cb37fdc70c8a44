use Rattle.std.proofs.Common.{◌++◌, List, ℕ, []}
use Rattle.flow_shape.specs.Links.{Follows}
use Rattle.flow_shape.proofs.Orders.{undone}
use Rattle.flow_shape.proofs.sequence.order.Given as goal

-- what follows what is done makes the whole order with it
abbrev pub invariant-loop-i : goal.invariant-loop-i
invariant-loop-i l = (more : List ℕ) → Follows l.count l.links l.done.items more → Follows l.count l.links [] (l.done.items ++ more)

abbrev pub decreases-loop-i : goal.decreases-loop-i
decreases-loop-i l = undone l.count l.done.items
