use Rattle.std.proofs.Common.{◌≡◌, ◌==◌, map, filter}
use Rattle.std.specs.List.{range_with_len}
use Rattle.flow_graph.specs.Charts.{link_at, width_at}
use Rattle.list_run.proofs.run.widths_into.Given as goal

abbrev pub invariant-loop-link : goal.invariant-loop-link
invariant-loop-link l = l.widths.items ≡ map (width_at l.shaped) (filter (λ k. (link_at l.shaped k).to == l.op) (range_with_len 0 l.link))
