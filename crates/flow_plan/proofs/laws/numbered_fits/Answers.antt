use Rattle.flow_plan.proofs.Following.{numbered_is, numbered_gives}
use Rattle.flow_plan.proofs.laws.numbered_fits.Goals as goal

pub returns : goal.returns
returns c = λ o operator. record { stream = numbered_is o operator; gives = numbered_gives o operator }
