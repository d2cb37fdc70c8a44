use Rattle.op_base.proofs.Orders.{row_total}
use Rattle.op_base.proofs.laws.row_order_is_total.Goals as goal

pub returns : goal.returns
returns c = row_total
