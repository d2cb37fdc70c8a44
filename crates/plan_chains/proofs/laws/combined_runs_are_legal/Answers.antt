use Rattle.plan_chains.proofs.Parting.{combined_is_legal}
use Rattle.plan_chains.proofs.laws.combined_runs_are_legal.Goals as goal

pub returns : goal.returns
returns g c = combined_is_legal
