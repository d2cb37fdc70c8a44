use Rattle.flow_rules.proofs.LawProofs.{sinks_meet}
use Rattle.flow_rules.proofs.laws.sinks_meet_grades.Goals as goal

pub returns : goal.returns
returns c = sinks_meet
