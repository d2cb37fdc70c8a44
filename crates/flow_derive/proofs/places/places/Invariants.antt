use Rattle.std.proofs.Common.{◌≡◌, ◌++◌, drop}
use Rattle.flow_derive.specs.Derive.{places}
use Rattle.flow_derive.proofs.places.places.Given as goal

abbrev pub invariant-loop-state : goal.invariant-loop-state
invariant-loop-state l = l.found.items ++ places (drop l.state-index l.states) ≡ places l.states
