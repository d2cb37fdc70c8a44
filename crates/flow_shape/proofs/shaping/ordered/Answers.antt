use Rattle.std.proofs.Common.{refl, inl, inr}
use Rattle.flow_shape.proofs.shaping.ordered.Goals as goal

pub returns-in-Some-2-clause-bad : goal.returns-in-Some-2-clause-bad
returns-in-Some-2-clause-bad c = inr (inl (refl, c.in_default.ensures.none, rw c.in-Some-2.is at c.in_ok-op.ensures.found))

pub returns-clause-acyclic : goal.returns-clause-acyclic
returns-clause-acyclic c = rw c.in_default-2.is at c.in_ok-op.ensures.none
