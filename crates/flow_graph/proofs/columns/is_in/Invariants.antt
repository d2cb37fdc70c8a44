use Rattle.std.proofs.Common.{◌≡◌, drop}
use Rattle.op_base.specs.Columns.{is_in}
use Rattle.flow_graph.proofs.columns.is_in.Given as goal

abbrev pub invariant-loop-other : goal.invariant-loop-other
invariant-loop-other l = is_in l.column l.columns ≡ is_in l.column (drop l.other-index l.columns)
