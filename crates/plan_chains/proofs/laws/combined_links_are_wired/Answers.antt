use Rattle.plan_chains.proofs.Combining.{combined_is_wired}
use Rattle.plan_chains.proofs.laws.combined_links_are_wired.Goals as goal

pub returns : goal.returns
returns g c = combined_is_wired
