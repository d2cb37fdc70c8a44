use Rattle.op_row.proofs.Means.{rows-alone}
use Rattle.op_row.proofs.laws.rows_alone.Goals as goal

pub returns : goal.returns
returns c = rows-alone
