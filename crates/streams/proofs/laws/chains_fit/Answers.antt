use Rattle.streams.proofs.ChainLaws.{chains-fit}
use Rattle.streams.proofs.laws.chains_fit.Goals as goal

pub returns : goal.returns
returns g c = chains-fit
