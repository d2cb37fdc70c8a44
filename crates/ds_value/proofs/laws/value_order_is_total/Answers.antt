use Rattle.ds_value.proofs.Orders.{value_total, value_exact}
use Rattle.ds_value.proofs.laws.value_order_is_total.Goals as goal

pub returns-clause-total : goal.returns-clause-total
returns-clause-total c = value_total

pub returns-clause-exact : goal.returns-clause-exact
returns-clause-exact c = value_exact
