use Rattle.std.proofs.Common.{◌≡◌, not}
use Rattle.std.specs.List.{filter, range_with_len}
use Rattle.op_base.specs.Columns.{is_in}
use Rattle.keyed_shape.proofs.keying.other_columns.Given as goal

abbrev pub invariant-loop-i : goal.invariant-loop-i
invariant-loop-i l = l.found ≡ filter (λ c. not (is_in c l.columns.items)) (range_with_len 0 l.i-counter)
