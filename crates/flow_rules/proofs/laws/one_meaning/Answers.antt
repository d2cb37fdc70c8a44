use Rattle.flow_rules.proofs.LawProofs.{one_meaning}
use Rattle.flow_rules.proofs.laws.one_meaning.Goals as goal

pub returns : goal.returns
returns c = one_meaning
