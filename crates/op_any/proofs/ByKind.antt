-- What is made of a kind, under the name that the kind has.
use Rattle.std.proofs.Common.{◌≡◌, ℕ, Bool, false, sym, ap, ◌∙◌, List, [], get_or}
use Rattle.streams.specs.Streams.{Feed}
use Rattle.ds_schema.specs.declared.key.Key.{Key}
use Rattle.op_base.specs.Columns.{Row}
use Rattle.op_base.specs.Keyed.{get_keys}
use Rattle.op_base.specs.Standing.{RowStream}
use Rattle.op_group.specs.declared.agg.Agg.{Agg}
use Rattle.op_group.specs.Groups.{sorted_stream}
use Rattle.op_join.specs.declared.kind.JoinKind.{JoinKind}
use Rattle.op_join.specs.Joining.{joining, join_stream}
use Rattle.ds_expr.specs.Typed.{TypedTree}
use Rattle.op_row.specs.Expressed.{switch_stream}
use Rattle.flow_graph.specs.declared.op_kind.OpKind.{OpKind}
use Rattle.flow_graph.specs.declared.parts.OpParts.{OpParts}
use Rattle.flow_ops.specs.Keyed.{join_of}
use Rattle.kind_streams.specs.OfKinds.{group_stream, row_stream}
use Rattle.kind_streams.specs.Making.{IsMade, suits_by}

pub made : (k of : OpKind) (parts : OpParts) (widths : List ℕ) (outs : ℕ) (stream : RowStream) (suits : List (Feed Row) → Bool) (Stands : List (Feed Row) → Type 0) →
    k ≡ of → stream ≡ row_stream of parts widths outs → suits ≡ suits_by of parts widths → Stands [] → IsMade k parts widths outs stream suits Stands
made k of parts widths outs stream suits Stands e s u f = record {
  stream_is = s ∙ ap (λ z. row_stream z parts widths outs) (sym e);
  suits_is = u ∙ ap (λ z. suits_by z parts widths) (sym e);
  fresh = f;
}

pub joins : (k : JoinKind) (parts : OpParts) (widths : List ℕ) (left right : List Key) (v w : ℕ) → left ≡ get_keys parts.keys 0 → right ≡ get_keys parts.keys 1 → v ≡ get_or widths 0 0 → w ≡ get_or widths 1 0 →
    join_stream (joining k left right v w) ≡ join_stream (join_of k parts (get_or widths 0 0) (get_or widths 1 0))
joins k parts widths left right v w l r a b =
    ap (λ ks. join_stream (joining k ks right v w)) l
    ∙ ap (λ ks. join_stream (joining k (get_keys parts.keys 0) ks v w)) r
    ∙ ap (λ n. join_stream (joining k (get_keys parts.keys 0) (get_keys parts.keys 1) n w)) a
    ∙ ap (λ n. join_stream (joining k (get_keys parts.keys 0) (get_keys parts.keys 1) (get_or widths 0 0) n)) b

pub groups : (keys own : List Key) (hashes : Bool) (aggs given : List Agg) → keys ≡ own → hashes ≡ false → aggs ≡ given → sorted_stream keys aggs ≡ group_stream own hashes given
groups keys own hashes aggs given k h a = ap (λ ks. sorted_stream ks aggs) k ∙ ap (sorted_stream own) a ∙ sym (ap (λ z. group_stream own z given) h)

pub switches : (on first : TypedTree) (cases own : List Rattle.std.specs.Prelude.ℤ) (rejects : Bool) → on ≡ first → cases ≡ own → switch_stream on cases rejects ≡ switch_stream first own rejects
switches on first cases own rejects e f = ap (λ t. switch_stream t cases rejects) e ∙ ap (λ cs. switch_stream first cs rejects) f
