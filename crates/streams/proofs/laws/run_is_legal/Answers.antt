use Rattle.streams.proofs.Legal.{run-is-legal}
use Rattle.streams.proofs.laws.run_is_legal.Goals as goal

pub returns : goal.returns
returns g c = run-is-legal
