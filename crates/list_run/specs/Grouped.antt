-- A group's results with their columns, and what a group emits for a list.
use Rattle.std.specs.Prelude.{ℕ, List, [], ◌∷◌}
use Rattle.streams.specs.Streams.{Out}
use Rattle.op_base.specs.declared.emit.Emit.{Emit}
use Rattle.op_base.specs.declared.fault.Fault.{Fault}
use Rattle.op_base.specs.Columns.{Row}
use Rattle.op_base.specs.Meanings.{Grouping}
use Rattle.op_base.specs.WholeLists.{HasEmitted}
use Rattle.op_group.specs.declared.agg.Agg.{Agg}
use Rattle.op_group.specs.declared.agg.Agg.TheVariants as agg
use Rattle.op_group.specs.Laws.{AreGiven}
use Rattle.flow_graph.specs.declared.op_kind.AggSpec.{AggSpec}
use Rattle.flow_graph.specs.declared.op_kind.AggSpec.TheVariants as spec
use Rattle.flow_graph.specs.Operators.{group}
use Rattle.flow_graph.specs.Runs.{result_on, faults_on}

-- a result of a column; a count has none
abbrev pub agg_on : AggSpec → ℕ → Agg
agg_on (spec.Sum new old) c = agg.Sum c
agg_on (spec.Count new) c = agg.Count
agg_on (spec.Min new old) c = agg.Min c
agg_on (spec.Max new old) c = agg.Max c
agg_on (spec.First new old) c = agg.First c
agg_on (spec.Last new old) c = agg.Last c

-- what was emitted for these rows is what a group gives for them
pub record Groups (g : Grouping) (rows : List Row) (emit : Emit) : Type 0 where
  pub given : List (Out Row Fault)
  pub emitted : HasEmitted emit given
  pub means : AreGiven (result_on (group g) 0 0 (rows ∷ [])) (faults_on (group g) 0 (rows ∷ [])) given
