use Rattle.op_collect.proofs.Means.{ordered_joins}
use Rattle.op_collect.proofs.laws.ordered_joins.Goals as goal

pub returns : goal.returns
returns c = ordered_joins
