use Rattle.streams.proofs.Measure.{each-falls}
use Rattle.streams.proofs.Ending.{rank-falls}
use Rattle.streams.proofs.laws.each_falls.Goals as goal

pub returns : goal.returns
returns g c = record { list = each-falls; number = rank-falls }
