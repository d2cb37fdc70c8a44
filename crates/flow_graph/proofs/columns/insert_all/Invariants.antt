use Rattle.std.proofs.Common.{◌≡◌, ◌++◌, drop}
use Rattle.flow_graph.specs.Columns.{set_of}
use Rattle.flow_graph.proofs.columns.insert_all.Given as goal

abbrev pub invariant-loop-i : goal.invariant-loop-i
invariant-loop-i l = l.found.items ≡ set_of (drop l.i l.columns ++ l.fn.found.items)
