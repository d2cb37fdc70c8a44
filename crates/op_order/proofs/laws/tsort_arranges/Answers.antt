use Rattle.op_order.proofs.Means.{tsort-arranges}
use Rattle.op_order.proofs.laws.tsort_arranges.Goals as goal

pub returns : goal.returns
returns c = tsort-arranges
