use Rattle.flow_graph.proofs.InsertedSorts.{result_same}
use Rattle.flow_graph.proofs.InsertedSorts.{faults_same}
use Rattle.flow_graph.proofs.laws.sorts_are_unseen.Goals as goal

pub returns-clause-rows : goal.returns-clause-rows
returns-clause-rows c = result_same

pub returns-clause-faults : goal.returns-clause-faults
returns-clause-faults c = faults_same
