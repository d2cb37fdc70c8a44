-- Some rounds of an operator, until nothing can be taken off.
use Rattle.std.proofs.Common.{◌≡◌, Bool, true, false, cond, refl, sym, ap, ap₂, ◌∙◌, subst, inl, inr, List, [], ◌∷◌, ◌++◌, Option, Some, None}
use Rattle.std.specs.Prelude.{option_map}
use Rattle.streams.specs.Streams.{Out}
use Rattle.ds_value.specs.declared.value.Value.{Value}
use Rattle.op_base.specs.declared.emit.Emit.{Emit}
use Rattle.op_base.specs.declared.fault.Fault.{Fault}
use Rattle.op_base.specs.Columns.{Row}
use Rattle.op_base.specs.Emits.{Adds}
use Rattle.op_base.specs.Feeds.{emits, heads_in, left, rest_of, runs_done, taken_off}
use Rattle.op_base.proofs.Adding.{Adds-none, Adds-then}
use Rattle.op_base.proofs.Feeding.{round_emits, round_left}
use Rattle.op_runs.specs.KeyedStreams.{KeyRule}
use Rattle.op_match.specs.declared.side.Side.{Side}
use Rattle.op_match.specs.Waiting.{columns_in, ends_in, keys_in, rows_waiting, ways_in, IsSound}
use Rattle.op_match.specs.Rounds.{due, remaining, IsRound, IsStill, TakesOff, Took}

cond_same : {X : Type 0} (b : Bool) (x : X) → cond b x x ≡ x
cond_same true x = refl
cond_same false x = refl

still_due : (rule : KeyRule) (sides : List Side) → IsStill sides → due rule sides ≡ []
still_due rule sides (inl d) = round_emits (ways_in sides) (columns_in sides) rule (ends_in sides) (rows_waiting sides) ∙ ap (λ b. cond b (taken_off (ways_in sides) (columns_in sides) rule (rows_waiting sides) (emits (ways_in sides) (columns_in sides) rule (ends_in sides)) (heads_in (columns_in sides) (rows_waiting sides))) []) d
still_due rule sides (inr h) =
    round_emits (ways_in sides) (columns_in sides) rule (ends_in sides) (rows_waiting sides)
    ∙ ap (λ hs. cond (runs_done (columns_in sides) (ends_in sides) (rows_waiting sides)) (taken_off (ways_in sides) (columns_in sides) rule (rows_waiting sides) (emits (ways_in sides) (columns_in sides) rule (ends_in sides)) hs) []) h
    ∙ cond_same (runs_done (columns_in sides) (ends_in sides) (rows_waiting sides)) []

still_rows : (sides : List Side) → IsStill sides → remaining sides ≡ rows_waiting sides
still_rows sides (inl d) = round_left (ways_in sides) (columns_in sides) (ends_in sides) (rows_waiting sides) ∙ ap (λ b. cond b (rest_of (ways_in sides) (columns_in sides) (rows_waiting sides) (left (ways_in sides) (columns_in sides) (ends_in sides)) (heads_in (columns_in sides) (rows_waiting sides))) (rows_waiting sides)) d
still_rows sides (inr h) =
    round_left (ways_in sides) (columns_in sides) (ends_in sides) (rows_waiting sides)
    ∙ ap (λ hs. cond (runs_done (columns_in sides) (ends_in sides) (rows_waiting sides)) (rest_of (ways_in sides) (columns_in sides) (rows_waiting sides) (left (ways_in sides) (columns_in sides) (ends_in sides)) hs) (rows_waiting sides)) h
    ∙ cond_same (runs_done (columns_in sides) (ends_in sides) (rows_waiting sides)) (rows_waiting sides)

module _ (rule : KeyRule) where
  pub none_taken : (s : List Side) (now : Emit) → IsSound s → TakesOff rule s s now now
  none_taken s now sound = record { sound = sound; keys = refl; ends = refl; rows = refl; emits = λ later h. h }

  -- a round more
  pub more_taken : (s t u : List Side) (runs : List (List Row)) (before now later : Emit) → TakesOff rule s t before now → IsRound t u runs → ((key : List Value) → Adds now later (rule key runs)) → TakesOff rule s u before later
  more_taken s t u runs before now later h k added = record {
    sound = k.sound;
    keys = k.keys ∙ h.keys;
    ends = k.ends ∙ h.ends;
    rows = k.rows ∙ h.rows;
    emits = λ last g.
        let P : List (Out Row Fault) → Type 0 = λ outs. Adds now last outs in
        h.emits last (subst P (sym (k.gives rule)) (Adds-then now later last (rule k.key runs) (due rule u) (added k.key) g));
  }

  pub settled_rows : (s t : List Side) (before now : Emit) → TakesOff rule s t before now → IsStill t → rows_waiting t ≡ remaining s
  settled_rows s t before now h still = sym (still_rows t still) ∙ h.rows

  pub settled_emits : (s t : List Side) (before now : Emit) → TakesOff rule s t before now → IsStill t → Adds before now (due rule s)
  settled_emits s t before now h still =
      let P : List (Out Row Fault) → Type 0 = λ outs. Adds now now outs in
      h.emits now (subst P (sym (still_due rule t still)) (Adds-none now))

  -- in the end
  pub record IsSettled (s t : List Side) (before now : Emit) : Type 0 where
    pub sound : IsSound t
    pub keys : keys_in t ≡ keys_in s
    pub ends : ends_in t ≡ ends_in s
    pub rows : rows_waiting t ≡ remaining s
    pub emits : Adds before now (due rule s)

  pub settled : (s t u : List Side) (before now : Emit) → TakesOff rule s t before now → Took t u None → IsSettled s u before now
  settled s t u before now h took = subst (λ xs. IsSettled s xs before now) (sym took.1) (record {
    sound = h.sound;
    keys = h.keys;
    ends = h.ends;
    rows = settled_rows s t before now h took.0;
    emits = settled_emits s t before now h took.0;
  })

  -- by the answer of a call
  pub settled_by : {X : Type 0} (f : X → List (List Row)) (o : Option X) (s t u : List Side) (before now : Emit) → TakesOff rule s t before now → o ≡ None → Took t u (option_map f o) → IsSettled s u before now
  settled_by f o s t u before now h e took = settled s t u before now h (subst (λ p. Took t u (option_map f p)) e took)

pub round_by : {X : Type 0} (f : X → List (List Row)) (o : Option X) (r : X) (t u : List Side) → o ≡ Some r → Took t u (option_map f o) → IsRound t u (f r)
round_by f o r t u e took = subst (λ p. Took t u (option_map f p)) e took
