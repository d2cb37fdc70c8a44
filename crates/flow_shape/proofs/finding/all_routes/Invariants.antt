use Rattle.std.proofs.Common.{◌≡◌, ◌<◌, ℕ, [], get_or, map}
use Rattle.std.specs.List.{range_with_len}
use Rattle.ds_schema.specs.Schemas.{IsSchema}
use Rattle.flow_shape.specs.Refusals.{chart_of, written_at}
use Rattle.flow_shape.proofs.finding.all_routes.Given as goal

abbrev pub invariant-loop-link : goal.invariant-loop-link
invariant-loop-link l = record {
  routes : l.routes.items ≡ map (written_at (chart_of l.flow l.schemas)) (range_with_len 0 l.link);
  schemas : (k : ℕ) → k < l.link → IsSchema (get_or l.schemas k []);
}
