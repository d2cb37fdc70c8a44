use Rattle.std.proofs.Common.{◌≡◌, not}
use Rattle.std.specs.List.{filter, range_with_len}
use Rattle.shape_base.specs.Fields.{field_at}
use Rattle.op_shape.specs.Columns.{is_among}
use Rattle.op_shape.proofs.modifying.left_columns.Given as goal

abbrev pub invariant-loop-i : goal.invariant-loop-i
invariant-loop-i l = l.cols ≡ filter (λ c. not (is_among l.drop (field_at l.fields c).name)) (range_with_len 0 l.i)
