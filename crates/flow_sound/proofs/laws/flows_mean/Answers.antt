use Rattle.flow_sound.proofs.Meaning.{has_meaning, has_one_meaning}
use Rattle.flow_sound.proofs.laws.flows_mean.Goals as goal

pub returns-clause-some : goal.returns-clause-some
returns-clause-some c = has_meaning

pub returns-clause-one : goal.returns-clause-one
returns-clause-one c = has_one_meaning
