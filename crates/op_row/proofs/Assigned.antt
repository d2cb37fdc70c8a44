-- A value of the shape that can be assigned can be assigned.
use Rattle.std.proofs.Common.{◌≡◌, ℕ, true}
use Rattle.ds_value.specs.declared.kind.Kind.{Kind}
use Rattle.expr_table.specs.declared.entry.Shape.{Shape}
use Rattle.expr_table.specs.declared.entry.Shape.TheVariants as shape
use Rattle.expr_table.specs.declared.arg.Arg.{Arg}
use Rattle.expr_table.specs.declared.arg.Arg.TheVariants.{Null, Num, Text, Date, Truth}
use Rattle.expr_table.specs.Calls.{HasShape, IsInRange}
use Rattle.ds_expr.specs.declared.node.Typing.{Typing}
use Rattle.ds_expr.specs.Typed.{Fits}
use Rattle.ds_expr.specs.Assigning.{can_assign, Assignable}

by_shape : (s : Shape) (scale : ℕ) (k : Kind) (v : Arg) → HasShape s v → IsInRange v → can_assign s scale k ≡ true → Assignable k scale v
by_shape s scale k Null h r e = tt
by_shape shape.Num scale k (Num z) h r e = e
by_shape shape.Text scale k (Num z) h r e = absurd h
by_shape shape.Date scale k (Num z) h r e = absurd h
by_shape shape.Truth scale k (Num z) h r e = absurd h
by_shape shape.Unused scale k (Num z) h r e = absurd h
by_shape shape.Text scale k (Text b) h r e = e
by_shape shape.Num scale k (Text b) h r e = absurd h
by_shape shape.Date scale k (Text b) h r e = absurd h
by_shape shape.Truth scale k (Text b) h r e = absurd h
by_shape shape.Unused scale k (Text b) h r e = absurd h
by_shape shape.Date scale k (Date d) h r e = (e, r)
by_shape shape.Num scale k (Date d) h r e = absurd h
by_shape shape.Text scale k (Date d) h r e = absurd h
by_shape shape.Truth scale k (Date d) h r e = absurd h
by_shape shape.Unused scale k (Date d) h r e = absurd h
by_shape shape.Truth scale k (Truth b) h r e = absurd (cc)
by_shape shape.Num scale k (Truth b) h r e = absurd h
by_shape shape.Text scale k (Truth b) h r e = absurd h
by_shape shape.Date scale k (Truth b) h r e = absurd h
by_shape shape.Unused scale k (Truth b) h r e = absurd h

pub assignable : (t : Typing) (k : Kind) (v : Arg) → Fits t v → can_assign t.shape t.scale k ≡ true → Assignable k t.scale v
assignable t k v f e = by_shape t.shape t.scale k v f.0 f.1 e
