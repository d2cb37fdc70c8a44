use Rattle.streams.proofs.LiftedLaws.{lifted-fits}
use Rattle.streams.proofs.laws.lifted_fits.Goals as goal

pub returns : goal.returns
returns g c = lifted-fits
