use Rattle.std.proofs.Common.{◌≡◌, map}
use Rattle.std.specs.List.{range_with_len}
use Rattle.flow_shape.specs.Refusals.{chart_of, parts_at}
use Rattle.flow_shape.proofs.finding.all_parts.Given as goal

abbrev pub invariant-loop-op : goal.invariant-loop-op
invariant-loop-op l = l.parts.items ≡ map (parts_at (chart_of l.flow l.schemas)) (range_with_len 0 l.op)
