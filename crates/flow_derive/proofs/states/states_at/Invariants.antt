use Rattle.std.proofs.Common.{◌≡◌, ◌++◌, drop, map}
use Rattle.flow_derive.specs.LinkStates.{state_at}
use Rattle.flow_derive.proofs.states.states_at.Given as goal

abbrev pub invariant-loop-link : goal.invariant-loop-link
invariant-loop-link l = l.found.items ++ map (state_at l.states) (drop l.link-index l.links) ≡ map (state_at l.states) l.links
