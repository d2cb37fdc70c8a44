use Rattle.std.proofs.Common.{sym}
use Rattle.op_shape.proofs.Fit.{settled}
use Rattle.op_shape.proofs.parts.operator_exprs.Goals as goal

pub set_exprs-requires : goal.set_exprs-requires
set_exprs-requires c = rw c.as_slice-in-Transform.ensures (settled c.first-in-Transform.result.now c.in-Transform.set _ (rw (c.in-Transform.is, sym c.first-in-Transform.ensures) at c.requires.sound)).typed
