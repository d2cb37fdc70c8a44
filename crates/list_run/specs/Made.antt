-- What an operator makes of the lists of one partition, and of those of all partitions.
use Rattle.std.specs.Prelude.{ℕ, List, [], ◌∷◌, length, map, get_or}
use Rattle.std.specs.List.{range_with_len}
use Rattle.ds_schema.specs.declared.key.Key.{Key}
use Rattle.ds_schema.specs.Rows.{cols, ways}
use Rattle.op_base.specs.Columns.{Row}
use Rattle.op_base.specs.Feeds.{by_runs}
use Rattle.op_base.specs.Keyed.{arranged, get_keys}
use Rattle.op_base.specs.Meanings.{one_row, input}
use Rattle.flow_graph.specs.declared.op_kind.OpKind.{OpKind}
use Rattle.flow_graph.specs.declared.op_kind.OpKind.TheVariants as kind
use Rattle.flow_graph.specs.declared.parts.OpParts.{OpParts}
use Rattle.flow_graph.specs.Runs.{result_on, slice}
use Rattle.flow_ops.specs.Kinds.{op_by}

-- tsort and remdup by their keys; others pass what they have
abbrev pub made : OpKind → List (List Key) → List Row → List Row
made (kind.Tsort key) keys rows = arranged (get_keys keys 0) rows
made (kind.Remdup key last) keys rows = by_runs (ways (get_keys keys 0)) (cols (get_keys keys 0) ∷ []) (λ v same. one_row last (input 0 same)) (rows ∷ [])
made k keys rows = rows

-- what it makes for output q of the lists of a partition, by port
abbrev pub made_of : ℕ → OpKind → OpParts → List ℕ → ℕ → List (List Row) → List Row
made_of o k parts widths q lists = result_on (op_by o k parts widths) q 0 lists

-- there are as many partitions as input 0 has
abbrev pub degree_of : List (List (List Row)) → ℕ
degree_of inputs = length (get_or inputs 0 [])

-- and of all partitions
abbrev pub made_by : ℕ → OpKind → OpParts → List ℕ → ℕ → List (List (List Row)) → List (List Row)
made_by o k parts widths q inputs = map (λ p. made_of o k parts widths q (slice p inputs)) (range_with_len 0 (degree_of inputs))
