use Rattle.streams.proofs.Legal.{finished-is-legal}
use Rattle.streams.proofs.laws.finished_is_legal.Goals as goal

pub returns : goal.returns
returns g c = finished-is-legal
