use Rattle.std.proofs.Common.{◌≡◌, ◌++◌, take}
use Rattle.ds_schema.specs.Rows.{val}
use Rattle.op_match.proofs.columns.push_columns.Given as goal

abbrev pub invariant-loop-col : goal.invariant-loop-col
invariant-loop-col l = l.values.items ≡ l.fn.values.items ++ val (take l.col-index l.cols) l.row
