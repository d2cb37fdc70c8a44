use Rattle.std.proofs.Common.{◌≡◌, drop}
use Rattle.op_base.specs.Columns.{lies}
use Rattle.flow_graph.proofs.columns.lies.Given as goal

abbrev pub invariant-loop-column : goal.invariant-loop-column
invariant-loop-column l = lies l.columns l.others ≡ lies (drop l.column-index l.columns) l.others
