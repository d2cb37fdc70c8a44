use Rattle.flow_graph.proofs.PartLaws.{agree_bag}
use Rattle.flow_graph.proofs.PartLaws.{exact_is}
use Rattle.flow_rules.proofs.laws.agreement_is_whole.Goals as goal

pub returns-clause-bag : goal.returns-clause-bag
returns-clause-bag c = agree_bag

pub returns-clause-exact : goal.returns-clause-exact
returns-clause-exact c = exact_is
