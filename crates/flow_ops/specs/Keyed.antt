-- What a group, a join, a lookup, a merge or a capture of changes of a flow is, by its options, what its names stand for, and the widths of its inputs.
use Rattle.std.specs.Prelude.{ℕ, Bool, List, [], ◌∷◌}
use Rattle.ds_schema.specs.Rows.{cols}
use Rattle.op_base.specs.declared.missing.Missing.{Missing}
use Rattle.op_base.specs.Columns.{all_columns}
use Rattle.op_base.specs.Keyed.{get_keys}
use Rattle.op_base.specs.Meanings.{Capture, Grouping, Join, Looking, Merging}
use Rattle.op_group.specs.declared.agg.Agg.{Agg}
use Rattle.op_group.specs.declared.agg.Agg.TheVariants as agg
use Rattle.op_group.specs.Results.{grouping}
use Rattle.op_join.specs.declared.kind.JoinKind.{JoinKind}
use Rattle.op_join.specs.Joining.{joining}
use Rattle.op_lookup.specs.Looked.{missing_fault, others_of}
use Rattle.op_match.specs.Captures.{capturing}
use Rattle.op_match.specs.Merges.{merging}
use Rattle.flow_graph.specs.declared.op_kind.AggSpec.{AggSpec}
use Rattle.flow_graph.specs.declared.op_kind.AggSpec.TheVariants as spec
use Rattle.flow_graph.specs.declared.parts.OpParts.{OpParts}
use Rattle.flow_graph.specs.RowRules.{at_op}

-- the results of a group in their written order: the columns are those of the results that have one
abbrev pub aggs_of : List AggSpec → List ℕ → List Agg
aggs_of [] columns = []
aggs_of (spec.Count new ∷ results) columns = agg.Count ∷ aggs_of results columns
aggs_of (spec.Sum new old ∷ results) (c ∷ columns) = agg.Sum c ∷ aggs_of results columns
aggs_of (spec.Min new old ∷ results) (c ∷ columns) = agg.Min c ∷ aggs_of results columns
aggs_of (spec.Max new old ∷ results) (c ∷ columns) = agg.Max c ∷ aggs_of results columns
aggs_of (spec.First new old ∷ results) (c ∷ columns) = agg.First c ∷ aggs_of results columns
aggs_of (spec.Last new old ∷ results) (c ∷ columns) = agg.Last c ∷ aggs_of results columns
aggs_of (result ∷ results) [] = []

-- the same, where its faults are of the operator with this number
abbrev pub grouping_at : ℕ → Grouping → Grouping
grouping_at o g = record { keys = g.keys; hashes = g.hashes; sees_order = g.sees_order; results = g.results; over = λ values. at_op o (g.over values) }

abbrev pub group_of : ℕ → Bool → List AggSpec → OpParts → Grouping
group_of o hashes results parts = grouping_at o (grouping (get_keys parts.keys 0) hashes (aggs_of results parts.cols))

-- a join of inputs of these widths
abbrev pub join_of : JoinKind → OpParts → (left right : ℕ) → Join
join_of kind parts left right = joining kind (get_keys parts.keys 0) (get_keys parts.keys 1) left right

-- a lookup of main rows of one width in a reference of another
abbrev pub lookup_of : ℕ → Missing → OpParts → (main reference : ℕ) → Looking
lookup_of o missing parts main reference = record {
  main_keys = get_keys parts.keys 0;
  reference_keys = get_keys parts.keys 1;
  main = all_columns main;
  others = others_of (cols (get_keys parts.keys 1)) reference;
  missing = missing;
  fault = λ row. at_op o (missing_fault row);
}

-- a merge of inputs of these widths, those of the master first
abbrev pub merge_of : (keeps_bad rejects : Bool) → OpParts → List ℕ → Merging
merge_of keeps_bad rejects parts widths = merging parts.keys widths keeps_bad rejects

-- a capture of changes between inputs of this width
abbrev pub capture_of : (keeps_copy : Bool) → OpParts → ℕ → Capture
capture_of keeps_copy parts width = capturing (get_keys parts.keys 0) parts.cols keeps_copy width
