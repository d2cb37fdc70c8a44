use Rattle.ds_schema.proofs.RowOrders.{tie_is_val}
use Rattle.ds_schema.proofs.key.key_equal.Goals as goal

pub returns : goal.returns
returns c = rw (c.is_eq.ensures, c.compare_rows.ensures) (tie_is_val c.args.keys.now c.args.a.now c.args.b.now)
