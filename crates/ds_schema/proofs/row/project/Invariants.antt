use Rattle.std.proofs.Common.{◌≡◌, take}
use Rattle.ds_schema.specs.Rows.{val}
use Rattle.ds_schema.proofs.row.project.Given as goal

abbrev pub invariant-loop-col : goal.invariant-loop-col
invariant-loop-col l = l.values.items ≡ val (take l.col-index l.cols) l.row
