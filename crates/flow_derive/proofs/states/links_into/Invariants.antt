use Rattle.std.proofs.Common.{◌≡◌}
use Rattle.flow_derive.proofs.Fills.{into_below}
use Rattle.flow_derive.proofs.states.links_into.Given as goal

abbrev pub invariant-loop-link : goal.invariant-loop-link
invariant-loop-link l = l.ins.items ≡ into_below l.shaped l.op l.link
