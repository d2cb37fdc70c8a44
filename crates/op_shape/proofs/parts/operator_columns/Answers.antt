use Rattle.std.proofs.Common.{arith, sym}
use Rattle.op_shape.proofs.Fit.{set_few}
use Rattle.op_shape.proofs.parts.operator_columns.Goals as goal

pub set_columns-requires : goal.set_columns-requires
set_columns-requires c =
    let few = set_few c.in-Transform.set c.in-Transform.reject c.first.result.now (rw (c.in-Transform.is, sym c.first.ensures) at c.requires.sound) in
    rw (c.as_slice.ensures.fields, c.as_slice-in-Transform.ensures) (omega (arith, few))
