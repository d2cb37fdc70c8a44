use Rattle.std.proofs.Common.{sym}
use Rattle.op_shape.proofs.Fit.{set_sound}
use Rattle.op_shape.proofs.outputs.output_schema.Goals as goal

pub transform_schema-requires-clause-sound : goal.transform_schema-requires-clause-sound
transform_schema-requires-clause-sound c = rw c.as_slice.ensures (set_sound c.in-Transform.set c.in-Transform.reject c.first.result.now (rw (c.in-Transform.is, sym c.first.ensures) at c.requires.sound))

pub modify_schema-requires-clause-stand : goal.modify_schema-requires-clause-stand
modify_schema-requires-clause-stand c = rw c.as_slice-in-Modify-3.ensures (rw c.in-Modify.is at c.requires.stand)
