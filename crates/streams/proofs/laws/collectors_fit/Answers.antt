use Rattle.streams.proofs.Collected.{collectors_fit, all-decided}
use Rattle.streams.proofs.laws.collectors_fit.Goals as goal

pub returns : goal.returns
returns g c = record { fit = collectors_fit _ _; decided = all-decided }
