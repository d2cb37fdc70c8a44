use Rattle.osh_value.proofs.ValuesSpelled.{one_is_spelled}
use Rattle.osh_value.proofs.laws.one_value_is_spelled.Goals as goal

pub returns : goal.returns
returns c = one_is_spelled
