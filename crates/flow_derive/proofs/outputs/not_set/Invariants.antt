use Rattle.std.proofs.Common.{◌≡◌, ◌++◌, drop}
use Rattle.op_base.specs.RowOperators.{not_set}
use Rattle.flow_derive.proofs.outputs.not_set.Given as goal

abbrev pub invariant-loop-column : goal.invariant-loop-column
invariant-loop-column l = l.found.items ++ not_set l.targets (drop l.column-index l.columns) ≡ not_set l.targets l.columns
