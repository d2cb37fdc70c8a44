use Rattle.std.proofs.Common.{◌≡◌, take}
use Rattle.ds_schema.specs.Rows.{cols}
use Rattle.flow_graph.proofs.columns.columns_of.Given as goal

abbrev pub invariant-loop-key : goal.invariant-loop-key
invariant-loop-key l = l.columns.items ≡ cols (take l.key-index l.key-items)
