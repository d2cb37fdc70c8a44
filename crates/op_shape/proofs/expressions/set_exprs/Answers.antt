use Rattle.std.proofs.Common.{arith}
use Rattle.op_shape.proofs.Typing.{set_typed}
use Rattle.op_shape.proofs.expressions.set_exprs.Goals as goal

pub expr_over-requires : goal.expr_over-requires
expr_over-requires c = rw c.as_slice.ensures (set_typed c.args.schema.now c.args.sets.now c.loop-set.set-index c.set-item.result c.requires (omega arith) c.set-item.is)
