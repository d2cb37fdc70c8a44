use Rattle.op_order.proofs.Means.{remdup-sees-no-sort}
use Rattle.op_order.proofs.laws.remdup_sees_no_sort.Goals as goal

pub returns : goal.returns
returns c = remdup-sees-no-sort
