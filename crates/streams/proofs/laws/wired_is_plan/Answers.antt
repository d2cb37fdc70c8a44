use Rattle.streams.proofs.Wired.{wired-is-plan}
use Rattle.streams.proofs.laws.wired_is_plan.Goals as goal

pub returns : goal.returns
returns g c = wired-is-plan
