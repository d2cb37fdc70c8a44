use Rattle.streams.proofs.Ending.{ends}
use Rattle.streams.proofs.laws.drivers_end.Goals as goal

pub returns : goal.returns
returns g c = ends
