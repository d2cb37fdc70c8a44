use Rattle.std.proofs.Common.{◌≡◌, ◌++◌, drop}
use Rattle.flow_graph.specs.RowRules.{sets_of}
use Rattle.op_any.proofs.parts.sets_of.Given as goal

abbrev pub invariant-loop-i : goal.invariant-loop-i
invariant-loop-i l = l.sets.items ++ sets_of (drop l.i l.set) (drop l.i l.cols) (drop l.i l.exprs) ≡ sets_of l.set l.cols l.exprs
