use Rattle.expr_table.proofs.RowNulls.{nulls_exact}
use Rattle.expr_table.proofs.laws.nulls_are_exact.Goals as goal

pub returns : goal.returns
returns c = nulls_exact
