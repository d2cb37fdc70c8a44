use Rattle.std.proofs.Common.{true, false}
use Rattle.flow_graph.specs.declared.route.Route.TheVariants as route
use Rattle.flow_rules.proofs.LawProofs.{route_keeps}
use Rattle.flow_rules.proofs.laws.routes_keep.Goals as goal

pub returns-clause-same : goal.returns-clause-same
returns-clause-same c = λ seq. route_keeps seq route.Same

pub returns-clause-round_robin : goal.returns-clause-round_robin
returns-clause-round_robin c = route_keeps false route.RoundRobin

pub returns-clause-in_turn : goal.returns-clause-in_turn
returns-clause-in_turn c = route_keeps true route.RoundRobin

pub returns-clause-entire : goal.returns-clause-entire
returns-clause-entire c = λ seq. route_keeps seq route.Entire

pub returns-clause-hash : goal.returns-clause-hash
returns-clause-hash c = λ seq K. route_keeps seq (route.Hash K)

pub returns-clause-modulus : goal.returns-clause-modulus
returns-clause-modulus c = λ seq f. route_keeps seq (route.Modulus f)

pub returns-clause-any : goal.returns-clause-any
returns-clause-any c = λ seq. route_keeps seq route.Any

pub returns-clause-ordered : goal.returns-clause-ordered
returns-clause-ordered c = λ seq. route_keeps seq route.Ordered

pub returns-clause-merge : goal.returns-clause-merge
returns-clause-merge c = λ seq keys. route_keeps seq (route.Merge keys)
