-- The streams of the operators between imports and exports, by their kinds.
use Rattle.std.specs.Prelude.{ℕ, Bool, true, false, if◌then◌else◌, List, [], ◌∷◌, length, get_or}
use Rattle.streams.specs.Operators.{any_stream, ordered_stream, merge_stream}
use Rattle.ds_schema.specs.declared.key.Key.{Key}
use Rattle.ds_schema.specs.Rows.{cols, row_cmp}
use Rattle.op_base.specs.Keyed.{get_keys}
use Rattle.op_base.specs.Standing.{RowStream}
use Rattle.op_row.specs.ByRow.{copier_stream, modify_stream}
use Rattle.op_row.specs.Expressed.{filter_stream, switch_stream, transform_stream}
use Rattle.op_order.specs.Ordered.{tsort_stream, remdup_stream}
use Rattle.op_group.specs.declared.agg.Agg.{Agg}
use Rattle.op_group.specs.Groups.{sorted_stream, hashed_stream}
use Rattle.op_join.specs.declared.kind.JoinKind.TheVariants.{Inner, Left, Right, Full}
use Rattle.op_join.specs.Joining.{join_stream}
use Rattle.op_lookup.specs.Looked.{looked_stream}
use Rattle.op_match.specs.Captures.{capture_stream}
use Rattle.op_match.specs.Merges as match
use Rattle.flow_graph.specs.declared.op_kind.OpKind.{OpKind}
use Rattle.flow_graph.specs.declared.op_kind.OpKind.TheVariants as kind
use Rattle.flow_graph.specs.declared.parts.OpParts.{OpParts}
use Rattle.flow_graph.specs.RowRules.{first_expr, sets_of}
use Rattle.flow_ops.specs.Keyed.{aggs_of, join_of}

abbrev pub group_stream : List Key → Bool → List Agg → RowStream
group_stream keys hashes aggs = if hashes then hashed_stream keys aggs else sorted_stream keys aggs

-- n inputs one after another, in any order, or merged by keys
abbrev pub funnel_stream : Bool → List Key → ℕ → RowStream
funnel_stream true keys n = ordered_stream n
funnel_stream false [] n = any_stream n
funnel_stream false (k ∷ keys) n = merge_stream n (row_cmp (k ∷ keys))

-- The rows of an operator between imports and exports, by its kind, what its names stand for, the widths of its inputs and the number of links that leave it; of other kinds a copy.
abbrev pub row_stream : OpKind → OpParts → List ℕ → ℕ → RowStream
row_stream (kind.Filter test reject) parts widths outs = filter_stream (first_expr parts) reject
row_stream (kind.Transform set reject) parts widths outs = transform_stream (sets_of set parts.cols parts.exprs) reject
row_stream (kind.Modify keep drop rename) parts widths outs = modify_stream parts.cols
row_stream (kind.Switch on cases reject) parts widths outs = switch_stream (first_expr parts) cases reject
row_stream (kind.Tsort key) parts widths outs = tsort_stream (get_keys parts.keys 0)
row_stream (kind.Remdup key last) parts widths outs = remdup_stream (get_keys parts.keys 0) last
row_stream (kind.Group key hash results) parts widths outs = group_stream (get_keys parts.keys 0) hash (aggs_of results parts.cols)
row_stream (kind.InnerJoin key) parts widths outs = join_stream (join_of Inner parts (get_or widths 0 0) (get_or widths 1 0))
row_stream (kind.LeftOuterJoin key) parts widths outs = join_stream (join_of Left parts (get_or widths 0 0) (get_or widths 1 0))
row_stream (kind.RightOuterJoin key) parts widths outs = join_stream (join_of Right parts (get_or widths 0 0) (get_or widths 1 0))
row_stream (kind.FullOuterJoin key) parts widths outs = join_stream (join_of Full parts (get_or widths 0 0) (get_or widths 1 0))
row_stream (kind.Merge key keepbad reject) parts widths outs = match.merge_stream (match.merging parts.keys widths keepbad reject)
row_stream (kind.Lookup key missing) parts widths outs = looked_stream (cols (get_keys parts.keys 0)) (cols (get_keys parts.keys 1)) (get_or widths 1 0) missing
row_stream (kind.Changecapture key values keepcopy) parts widths outs = capture_stream (get_keys parts.keys 0) parts.cols keepcopy
row_stream (kind.Funnel sequence sort) parts widths outs = funnel_stream sequence (get_keys parts.keys 0) (length widths)
row_stream k parts widths outs = copier_stream outs
