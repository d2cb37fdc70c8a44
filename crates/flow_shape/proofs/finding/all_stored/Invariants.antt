use Rattle.std.proofs.Common.{◌≡◌, map, []}
use Rattle.std.specs.List.{range_with_len}
use Rattle.flow_shape.specs.Refusals.{chart_of, stored_at}
use Rattle.flow_shape.proofs.finding.all_stored.Given as goal

abbrev pub invariant-loop-op : goal.invariant-loop-op
invariant-loop-op l = l.list.items ≡ map (stored_at l.dict (chart_of l.flow [])) (range_with_len 0 l.op)
