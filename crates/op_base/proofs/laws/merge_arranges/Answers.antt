use Rattle.op_base.proofs.Merging.{merge_rows_is}
use Rattle.op_base.proofs.laws.merge_arranges.Goals as goal

pub returns : goal.returns
returns c = merge_rows_is
