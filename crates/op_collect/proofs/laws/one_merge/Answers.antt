use Rattle.op_collect.proofs.OneMerge.{rows_merge}
use Rattle.op_collect.proofs.laws.one_merge.Goals as goal

pub returns : goal.returns
returns c = rows_merge
