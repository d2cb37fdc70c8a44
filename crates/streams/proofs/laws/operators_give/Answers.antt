use Rattle.streams.proofs.OperatorLaws.{operators_give}
use Rattle.streams.proofs.laws.operators_give.Goals as goal

pub returns : goal.returns
returns g c = operators_give _ _
