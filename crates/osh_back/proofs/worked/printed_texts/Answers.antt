use Rattle.osh_back.proofs.WorkedPrints.{defaults, piped}
use Rattle.osh_back.proofs.worked.printed_texts.Goals as goal

pub returns-clause-piped : goal.returns-clause-piped
returns-clause-piped c = piped

pub returns-clause-defaults : goal.returns-clause-defaults
returns-clause-defaults c = defaults
