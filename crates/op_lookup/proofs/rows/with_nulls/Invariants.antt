use Rattle.std.proofs.Common.{◌≡◌, ◌++◌, take}
use Rattle.ds_schema.specs.Rows.{val}
use Rattle.op_base.specs.Columns.{no_row}
use Rattle.op_lookup.proofs.rows.with_nulls.Given as goal

abbrev pub invariant-loop-col : goal.invariant-loop-col
invariant-loop-col l = l.values.items ≡ l.fn.row ++ val (take l._col-index l.cols) no_row
