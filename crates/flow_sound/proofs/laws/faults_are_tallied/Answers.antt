use Rattle.flow_sound.proofs.Tallying.{export_tallied, run_tallied}
use Rattle.flow_sound.proofs.laws.faults_are_tallied.Goals as goal

pub returns-clause-run : goal.returns-clause-run
returns-clause-run c = run_tallied

pub returns-clause-export : goal.returns-clause-export
returns-clause-export c = export_tallied
