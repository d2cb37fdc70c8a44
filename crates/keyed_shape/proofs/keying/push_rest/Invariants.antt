use Rattle.std.proofs.Common.{◌≡◌, ◌++◌, not, map}
use Rattle.std.specs.List.{filter, range_with_len}
use Rattle.op_base.specs.Columns.{is_in}
use Rattle.shape_base.specs.Fields.{field_at}
use Rattle.keyed_shape.specs.Keyed.{nullable_if}
use Rattle.keyed_shape.proofs.keying.push_rest.Given as goal

abbrev pub invariant-loop-i : goal.invariant-loop-i
invariant-loop-i l = l.made.items ≡ l.fn.made.items ++ map (nullable_if l.test) (map (field_at l.fields) (filter (λ c. not (is_in c l.columns)) (range_with_len 0 l.i)))
