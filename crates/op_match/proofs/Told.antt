-- The operator of changecapture stays what it is.
use Rattle.std.proofs.Common.{◌≡◌, ap, ap₂, subst, List, map}
use Rattle.streams.specs.Streams.{sends}
use Rattle.ds_value.specs.declared.value.Value.{Value}
use Rattle.ds_schema.specs.declared.key.Key.{Key}
use Rattle.op_base.specs.declared.emit.Emit.{Emit}
use Rattle.op_base.specs.Columns.{Row}
use Rattle.op_base.specs.Emits.{Adds}
use Rattle.op_base.specs.Keyed.{get_keys}
use Rattle.op_base.specs.Meanings.{columns_of, input, ways_of}
use Rattle.op_runs.specs.KeyedStreams.{keyed_stream}
use Rattle.op_match.specs.declared.captures.Capture.{Capture}
use Rattle.op_match.specs.declared.change.Changes.{Changes}
use Rattle.op_match.specs.declared.side.Side.{Side}
use Rattle.op_match.specs.Captures.{capture_outs, capture_suits, captured, capturing}
use Rattle.op_match.specs.Capturing.{capture_rule, first_keys}
use Rattle.op_match.specs.Rounds.{due}
use Rattle.op_match.specs.Waiting.{keys_in, sides_stream}

pub stream_same : (s t : Capture) → keys_in t.sides.list.items ≡ keys_in s.sides.list.items → t.changes ≡ s.changes → sides_stream t.sides.list.items (capture_rule t) ≡ sides_stream s.sides.list.items (capture_rule s)
stream_same s t e f = ap₂ (λ keys (ch : Changes). keyed_stream (ways_of keys) (columns_of keys) (capture_outs (get_keys keys 0) ch.values.items ch.keep)) e f

pub suits_same : (s t : Capture) → keys_in t.sides.list.items ≡ keys_in s.sides.list.items → t.changes ≡ s.changes → capture_suits (first_keys t.sides.list.items) t.changes.values.items ≡ capture_suits (first_keys s.sides.list.items) s.changes.values.items
suits_same s t e f = ap₂ (λ keys (ch : Changes). capture_suits (get_keys keys 0) ch.values.items) e f

pub due_same : (s : Capture) (t : List Side) (before now : Emit) → keys_in t ≡ keys_in s.sides.list.items → Adds before now (due (capture_outs (first_keys t) s.changes.values.items s.changes.keep) t) → Adds before now (due (capture_rule s) t)
due_same s t before now e h = subst (λ keys. Adds before now (due (capture_outs (get_keys keys 0) s.changes.values.items s.changes.keep) t)) e h

-- what a round sends
pub changes_round : (s : Capture) (ch : Changes) (runs : List (List Row)) (befores afters : List Row) (now later : Emit) → ch ≡ s.changes → befores ≡ input 0 runs → afters ≡ input 1 runs →
    ((keys : List Key) → Adds now later (map (sends 0) (captured (capturing keys ch.values.items ch.keep) befores afters))) → (key : List Value) → Adds now later (capture_rule s key runs)
changes_round s ch runs befores afters now later e f g h key =
    let K : List Key = first_keys s.sides.list.items in
    subst (λ (c : Changes). Adds now later (map (sends 0) (captured (capturing K c.values.items c.keep) (input 0 runs) (input 1 runs)))) e
    (subst (λ rows. Adds now later (map (sends 0) (captured (capturing K ch.values.items ch.keep) (input 0 runs) rows))) g
    (subst (λ rows. Adds now later (map (sends 0) (captured (capturing K ch.values.items ch.keep) rows afters))) f (h K)))
