use Rattle.std.proofs.Common.{◌≡◌}
use Rattle.op_base.specs.Columns.{all_columns}
use Rattle.flow_derive.proofs.routes.all_columns.Given as goal

abbrev pub invariant-loop-column : goal.invariant-loop-column
invariant-loop-column l = l.columns.items ≡ all_columns l.column
