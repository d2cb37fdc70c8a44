use Rattle.std.proofs.Common.{◌≡◌, map, take}
use Rattle.op_shape.specs.Columns.{renamed}
use Rattle.op_shape.proofs.modifying.renamed_fields.Given as goal

abbrev pub invariant-loop-field : goal.invariant-loop-field
invariant-loop-field l = l.made.items ≡ map (renamed l.rename) (take l.field-index l.kept)
