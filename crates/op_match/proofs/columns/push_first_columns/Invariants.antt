use Rattle.std.proofs.Common.{◌≡◌, ◌++◌}
use Rattle.std.specs.List.{range_with_len}
use Rattle.ds_schema.specs.Rows.{val}
use Rattle.op_match.proofs.columns.push_first_columns.Given as goal

abbrev pub invariant-loop-col : goal.invariant-loop-col
invariant-loop-col l = l.values.items ≡ l.fn.values.items ++ val (range_with_len 0 l.col) l.row
