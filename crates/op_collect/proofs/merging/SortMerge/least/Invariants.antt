use Rattle.std.proofs.Common.{◌≡◌, ◌<◌}
use Rattle.std.specs.Prelude.{option_map, IfSome}
use Rattle.streams.specs.Operators.{Front, best_of}
use Rattle.ds_schema.specs.Rows.{row_cmp}
use Rattle.op_base.specs.Columns.{Row}
use Rattle.op_collect.specs.Merging.{rows_at}
use Rattle.op_collect.proofs.merging.SortMerge.least.Given as goal

abbrev pub invariant-loop-port : goal.invariant-loop-port
invariant-loop-port l = record {
  least : l.least ≡ option_map (λ (b : Front Row). b.port) (best_of (row_cmp l.self.keys) l.port (rows_at l.self.lanes.items));
  within : IfSome l.least (λ port. port < l.port);
}
