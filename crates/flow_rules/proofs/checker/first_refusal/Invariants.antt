use Rattle.flow_rules.proofs.Refusals.{NoneBelow}
use Rattle.flow_rules.proofs.checker.first_refusal.Given as goal

abbrev pub invariant-loop-link : goal.invariant-loop-link
invariant-loop-link l = NoneBelow l.shaped l.link l.states
