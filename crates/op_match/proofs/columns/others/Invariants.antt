use Rattle.std.proofs.Common.{◌≡◌, not}
use Rattle.std.specs.List.{filter, range_with_len}
use Rattle.ds_schema.specs.Rows.{cols}
use Rattle.op_base.specs.Columns.{is_in}
use Rattle.op_match.proofs.columns.others.Given as goal

abbrev pub invariant-loop-col : goal.invariant-loop-col
invariant-loop-col l = l.found.items ≡ filter (λ c. not (is_in c (cols l.keys))) (range_with_len 0 l.col)
