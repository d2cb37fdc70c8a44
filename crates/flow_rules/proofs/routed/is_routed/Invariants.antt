use Rattle.flow_rules.proofs.Routing.{RoutedBelow}
use Rattle.flow_rules.proofs.routed.is_routed.Given as goal

abbrev pub invariant-loop-link : goal.invariant-loop-link
invariant-loop-link l = RoutedBelow l.shaped l.link
