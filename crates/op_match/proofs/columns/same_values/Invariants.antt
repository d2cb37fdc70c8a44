use Rattle.std.proofs.Common.{◌≡◌, drop}
use Rattle.ds_schema.specs.Rows.{val}
use Rattle.op_base.specs.Keyed.{same_vals}
use Rattle.op_match.proofs.columns.same_values.Given as goal

-- the columns that are left decide
abbrev pub invariant-loop-col : goal.invariant-loop-col
invariant-loop-col l = same_vals (val (drop l.col-index l.cols) l.a) (val (drop l.col-index l.cols) l.b) ≡ same_vals (val l.cols l.a) (val l.cols l.b)
