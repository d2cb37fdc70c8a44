use Rattle.flow_derive.proofs.Fills.{Filled}
use Rattle.flow_derive.proofs.states.fill.Given as goal

abbrev pub invariant-loop-link : goal.invariant-loop-link
invariant-loop-link l = Filled l.shaped l.op l.link l.initial.states.items l.states.items
