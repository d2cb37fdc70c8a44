use Rattle.streams.proofs.ArrivalLaws.{shared-arrives}
use Rattle.streams.proofs.laws.shared_arrives.Goals as goal

pub returns : goal.returns
returns g c = shared-arrives
