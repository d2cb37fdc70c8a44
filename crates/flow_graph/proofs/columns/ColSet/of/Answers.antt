use Rattle.std.proofs.Common.{◌++◌}
use Rattle.flow_graph.proofs.ColumnSets.{is_set}
use Rattle.flow_graph.proofs.columns.ColSet.of.Goals as goal

pub invariant_of-result : goal.invariant_of-result
invariant_of-result c = is_set c.insert_all.new.found.items (c.args.columns.now ++ c.new-found.result.items) c.in_ok-insert_all.ensures
