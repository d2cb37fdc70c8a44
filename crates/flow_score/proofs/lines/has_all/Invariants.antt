use Rattle.std.proofs.Common.{◌≡◌, ◌-◌}
use Rattle.std.specs.List.{range_with_len}
use Rattle.op_base.specs.Columns.{lies, all_columns}
use Rattle.flow_score.proofs.lines.has_all.Given as goal

abbrev pub invariant-loop-column : goal.invariant-loop-column
invariant-loop-column l = lies (all_columns l.width) l.set ≡ lies (range_with_len l.column (l.width - l.column)) l.set
