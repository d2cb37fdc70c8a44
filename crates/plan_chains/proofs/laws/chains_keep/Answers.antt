use Rattle.plan_chains.proofs.Chaining.{chained_is_legal, chained_is_wired}
use Rattle.plan_chains.proofs.laws.chains_keep.Goals as goal

pub returns : goal.returns
returns g c = record { wired = chained_is_wired; legal = chained_is_legal }
