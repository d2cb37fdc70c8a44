use Rattle.std.proofs.Common.{◌≡◌, length}
use Rattle.flow_derive.proofs.states.no_states.Given as goal

abbrev pub invariant-loop-link : goal.invariant-loop-link
invariant-loop-link l = length l.states.items ≡ l._link
