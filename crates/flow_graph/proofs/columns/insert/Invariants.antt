use Rattle.std.proofs.Common.{◌≡◌, ◌++◌, drop, take}
use Rattle.std.specs.Ordering.{nat_cmp}
use Rattle.op_base.specs.Lists.{with_rank}
use Rattle.flow_graph.proofs.columns.insert.Given as goal

abbrev pub invariant-loop-i : goal.invariant-loop-i
invariant-loop-i l = record {
  same : l.columns.items ≡ l.fn.columns.items;
  ranked : with_rank nat_cmp l.column l.columns.items ≡ take l.i l.columns.items ++ with_rank nat_cmp l.column (drop l.i l.columns.items);
}
