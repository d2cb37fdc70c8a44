use Rattle.flow_plan.proofs.Wiring.{plans_are_wired}
use Rattle.flow_plan.proofs.laws.plans_are_wired.Goals as goal

pub returns : goal.returns
returns c = plans_are_wired
