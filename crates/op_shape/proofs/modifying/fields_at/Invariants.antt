use Rattle.std.proofs.Common.{◌≡◌, map, take}
use Rattle.shape_base.specs.Fields.{field_at}
use Rattle.op_shape.proofs.modifying.fields_at.Given as goal

abbrev pub invariant-loop-col : goal.invariant-loop-col
invariant-loop-col l = l.kept.items ≡ map (field_at l.fields) (take l.col-index l.cols)
