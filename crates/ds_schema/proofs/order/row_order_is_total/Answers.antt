use Rattle.ds_schema.proofs.RowOrders.{row_total, row_tie, val_tie}
use Rattle.ds_schema.proofs.order.row_order_is_total.Goals as goal

pub returns-clause-total : goal.returns-clause-total
returns-clause-total c = row_total

pub returns-clause-equal : goal.returns-clause-equal
returns-clause-equal c = λ keys a b. (row_tie keys a b, val_tie keys a b)
