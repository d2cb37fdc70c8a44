use Rattle.plan_chains.proofs.Finishing.{finished_is_unchained, run_is_unchained}
use Rattle.plan_chains.proofs.laws.chains_finish.Goals as goal

pub returns : goal.returns
returns g c = record { finished = finished_is_unchained; run = run_is_unchained }
