-- A group's results with their columns.
use Rattle.std.specs.Prelude.{ℕ}
use Rattle.op_group.specs.declared.agg.Agg.{Agg}
use Rattle.op_group.specs.declared.agg.Agg.TheVariants as agg
use Rattle.flow_graph.specs.declared.op_kind.AggSpec.{AggSpec}
use Rattle.flow_graph.specs.declared.op_kind.AggSpec.TheVariants as spec

-- a result of a column; a count has none
abbrev pub agg_on : AggSpec → ℕ → Agg
agg_on (spec.Sum new old) c = agg.Sum c
agg_on (spec.Count new) c = agg.Count
agg_on (spec.Min new old) c = agg.Min c
agg_on (spec.Max new old) c = agg.Max c
agg_on (spec.First new old) c = agg.First c
agg_on (spec.Last new old) c = agg.Last c
