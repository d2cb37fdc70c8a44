use Rattle.flow_rules.proofs.FlowAll.{faults_all}
use Rattle.flow_rules.proofs.FlowAll.{flow_all}
use Rattle.flow_rules.proofs.laws.all_flows_keep.Goals as goal

pub returns-clause-links : goal.returns-clause-links
returns-clause-links c = flow_all

pub returns-clause-faults : goal.returns-clause-faults
returns-clause-faults c = faults_all
