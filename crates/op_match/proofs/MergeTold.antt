-- The operator of merge stays what it is.
use Rattle.std.proofs.Common.{◌≡◌, ap₂, subst, List}
use Rattle.ds_value.specs.declared.value.Value.{Value}
use Rattle.ds_schema.specs.declared.key.Key.{Key}
use Rattle.op_base.specs.declared.emit.Emit.{Emit}
use Rattle.op_base.specs.Columns.{Row}
use Rattle.op_base.specs.Emits.{Adds}
use Rattle.op_match.specs.declared.layout.Layout.{Layout}
use Rattle.op_match.specs.declared.merge.Merger.{Merger}
use Rattle.op_match.specs.declared.side.Side.{Side}
use Rattle.op_match.specs.Merges.{merge_outs, merge_stream}
use Rattle.op_match.specs.Merged.{meant, merge_rule_of}
use Rattle.op_match.specs.Rounds.{due}
use Rattle.op_match.specs.Waiting.{keys_in}

pub merger_same : (s t : Merger) → keys_in t.sides.list.items ≡ keys_in s.sides.list.items → t.layout ≡ s.layout → merge_stream (meant (keys_in t.sides.list.items) t.layout) ≡ merge_stream (meant (keys_in s.sides.list.items) s.layout)
merger_same s t e f = ap₂ (λ keys (layout : Layout). merge_stream (meant keys layout)) e f

pub merger_due : (s : Merger) (t : List Side) (before now : Emit) → keys_in t ≡ keys_in s.sides.list.items → Adds before now (due (merge_outs (meant (keys_in t) s.layout)) t) → Adds before now (due (merge_rule_of s) t)
merger_due s t before now e h = subst (λ keys. Adds before now (due (merge_outs (meant keys s.layout)) t)) e h

-- what a round sends
pub merged_round : (s : Merger) (layout : Layout) (runs seen : List (List Row)) (now later : Emit) → layout ≡ s.layout → seen ≡ runs → ((keys : List (List Key)) (v : List Value) → Adds now later (merge_outs (meant keys layout) v seen)) → (key : List Value) → Adds now later (merge_rule_of s key runs)
merged_round s layout runs seen now later e f h key =
    let K : List (List Key) = keys_in s.sides.list.items in
    subst (λ (l : Layout). Adds now later (merge_outs (meant K l) key runs)) e (subst (λ xs. Adds now later (merge_outs (meant K layout) key xs)) f (h K key))
