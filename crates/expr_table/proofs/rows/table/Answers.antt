use Rattle.expr_table.proofs.Found.{rows_distinct}
use Rattle.expr_table.proofs.rows.table.Goals as goal

pub returns-clause-distinct : goal.returns-clause-distinct
returns-clause-distinct c = rw c.new.ensures rows_distinct
