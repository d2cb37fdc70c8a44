use Rattle.streams.proofs.Loose.{loose-is-run}
use Rattle.streams.proofs.laws.loose_is_run.Goals as goal

pub returns : goal.returns
returns g c = loose-is-run
