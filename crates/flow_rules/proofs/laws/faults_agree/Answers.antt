use Rattle.flow_rules.proofs.LawProofs.{faults_agree}
use Rattle.flow_rules.proofs.laws.faults_agree.Goals as goal

pub returns : goal.returns
returns c = faults_agree
