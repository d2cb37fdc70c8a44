-- What one more feed makes tsort and remdup give, and what they keep.
use Rattle.std.proofs.Common.{◌≡◌, ℕ, Bool, true, false, not, cond, refl, sym, ap, ap₂, ◌∙◌, subst, List, [], ◌∷◌, ◌++◌, map, Option, Some, None}
use Rattle.std.specs.Prelude.{option_to_list}
use Rattle.streams.specs.Streams.{row, end, Feed, Out, sends, ended, rows_of}
use Rattle.streams.specs.Operators.{one_wanted, begins_run, last_outs}
use Rattle.streams.proofs.RunLaws.{ruled-last}
use Rattle.ds_schema.specs.declared.key.Key.{Key}
use Rattle.op_base.specs.declared.fault.Fault.{Fault}
use Rattle.op_base.specs.Columns.{Row}
use Rattle.op_base.specs.Lists.{last_one}
use Rattle.op_base.specs.Standing.{row_feed, end_feed}
use Rattle.op_base.proofs.StandingLaws.{ended-row, ended-end, rows_of-row, one_port_open}
use Rattle.op_order.specs.declared.marked.Marked.{Marked}
use Rattle.op_order.specs.Marks.{key_mark, AreMarked, rows_in}
use Rattle.op_order.specs.Ordered.{same_key, run_row, TsortStands, RemdupStands, row_gain, end_gain}

-- Tsort
pub in-more : (rows : List Marked) (m : Marked) → rows_in (rows ++ m ∷ []) ≡ rows_in rows ++ m.row ∷ []
in-more [] m = refl
in-more (x ∷ rows) m = ap (λ t. x.row ∷ t) (in-more rows m)

marked-more : (keys : List Key) (rows : List Marked) (m : Marked) → AreMarked keys rows → m.mark ≡ key_mark keys m.row → AreMarked keys (rows ++ m ∷ [])
marked-more keys [] m h k = (k, tt)
marked-more keys (x ∷ rows) m h k = (h.0, marked-more keys rows m h.1 k)

pub TsortStands-row : (keys : List Key) (over : Bool) (rows later : List Marked) (m : Marked) (feeds : List (Feed Row)) (port : ℕ) (r : Row) → port ≡ 0 → later ≡ rows ++ m ∷ [] → m.row ≡ r → m.mark ≡ key_mark keys r → TsortStands keys over rows feeds → TsortStands keys over later (feeds ++ row_feed port r ∷ [])
TsortStands-row keys over rows later m feeds port r zero pushed row_is mark_is stands = record {
  over_is = stands.over_is ∙ sym (ended-row 0 feeds port r);
  rows_are = λ still. ap rows_in pushed ∙ in-more rows m ∙ ap₂ (λ t x. t ++ x ∷ []) (stands.rows_are still) row_is ∙ sym (rows_of-row 0 feeds r) ∙ ap (λ p. rows_of 0 (feeds ++ row_feed p r ∷ [])) (sym zero);
  marked = subst (AreMarked keys) (sym pushed) (marked-more keys rows m stands.marked (mark_is ∙ ap (key_mark keys) (sym row_is)));
}

pub TsortStands-end : (keys : List Key) (feeds : List (Feed Row)) (port : ℕ) → port ≡ 0 → TsortStands keys true [] (feeds ++ end_feed port ∷ [])
TsortStands-end keys feeds port zero = record {
  over_is = sym (ended-end 0 feeds) ∙ ap (λ p. ended 0 (feeds ++ end_feed p ∷ [])) (sym zero);
  rows_are = λ still. cc;
  marked = tt;
}

pub tsort_open : (keys : List Key) (over : Bool) (rows : List Marked) (feeds : List (Feed Row)) (port : ℕ) → TsortStands keys over rows feeds → one_wanted feeds port ≡ true → over ≡ false
tsort_open keys over rows feeds port stands w = stands.over_is ∙ one_port_open feeds port w

-- Remdup
last_more : {X : Type 0} (xs : List X) (x : X) → last_one (xs ++ x ∷ []) ≡ x ∷ []
last_more [] x = refl
last_more (y ∷ []) x = refl
last_more (y ∷ (z ∷ zs)) x = last_more (z ∷ zs) x

pub RemdupStands-row : (over : Bool) (newest : Option Row) (feeds : List (Feed Row)) (port : ℕ) (r : Row) → port ≡ 0 → RemdupStands over newest feeds → RemdupStands over (Some r) (feeds ++ row_feed port r ∷ [])
RemdupStands-row over newest feeds port r zero stands = record {
  over_is = stands.over_is ∙ sym (ended-row 0 feeds port r);
  newest_is = λ still. sym (last_more (rows_of 0 feeds) r) ∙ ap last_one (sym (rows_of-row 0 feeds r)) ∙ ap (λ p. last_one (rows_of 0 (feeds ++ row_feed p r ∷ []))) (sym zero);
}

pub RemdupStands-end : (newest : Option Row) (feeds : List (Feed Row)) (port : ℕ) → port ≡ 0 → RemdupStands true newest (feeds ++ end_feed port ∷ [])
RemdupStands-end newest feeds port zero = record {
  over_is = sym (ended-end 0 feeds) ∙ ap (λ p. ended 0 (feeds ++ end_feed p ∷ [])) (sym zero);
  newest_is = λ still. cc;
}

pub remdup_open : (over : Bool) (newest : Option Row) (feeds : List (Feed Row)) (port : ℕ) → RemdupStands over newest feeds → one_wanted feeds port ≡ true → over ≡ false
remdup_open over newest feeds port stands w = stands.over_is ∙ one_port_open feeds port w

-- a row begins a run where it isn't the same as the newest before it
abbrev begins_after : {X : Type 0} → (X → X → Bool) → List X → X → Bool
begins_after same [] x = true
begins_after same (y ∷ ys) x = not (same y x)

begins-newest : {X : Type 0} (same : X → X → Bool) (before : List X) (x : X) → begins_run same before x ≡ begins_after same (last_one before) x
begins-newest same [] x = refl
begins-newest same (y ∷ []) x = refl
begins-newest same (y ∷ (z ∷ zs)) x = begins-newest same (z ∷ zs) x

sent_last : {X F : Type 0} (before : List X) → last_outs {F = F} before ≡ map (sends 0) (last_one before)
sent_last [] = refl
sent_last (x ∷ []) = refl
sent_last (x ∷ (y ∷ ys)) = sent_last (y ∷ ys)

pub run_row-row : (keys : List Key) (last : Bool) (newest : Option Row) (before : List Row) (r : Row) → option_to_list newest ≡ last_one before → run_row keys last before (row r) ≡ row_gain keys last newest r
run_row-row keys false newest before r e = ap (λ b. cond b (sends 0 r ∷ []) []) (begins-newest (same_key keys) before r ∙ ap (λ t. begins_after (same_key keys) t r) (sym e)) ∙ go newest
  where
    go : (o : Option Row) → cond (begins_after (same_key keys) (option_to_list o) r) (sends 0 r ∷ []) [] ≡ row_gain keys false o r
    go None = refl
    go (Some old) = elim (same_key keys old r) as (λ b. cond {A = List (Out Row Fault)} (not b) (sends 0 r ∷ []) [] ≡ cond b [] (sends 0 r ∷ [])) [ true ↦ refl | false ↦ refl ]
run_row-row keys true newest before r e =
    ap₂ (λ b t. cond b t []) (begins-newest (same_key keys) before r ∙ ap (λ t. begins_after (same_key keys) t r) (sym e)) (ruled-last (same_key keys) before ∙ sent_last before ∙ ap (map (sends 0)) (sym e)) ∙ go newest
  where
    go : (o : Option Row) → cond (begins_after (same_key keys) (option_to_list o) r) (map (sends 0) (option_to_list o)) [] ≡ row_gain keys true o r
    go None = refl
    go (Some old) = elim (same_key keys old r) as (λ b. cond {A = List (Out Row Fault)} (not b) (sends 0 old ∷ []) [] ≡ cond b [] (sends 0 old ∷ [])) [ true ↦ refl | false ↦ refl ]

pub run_row-end : (keys : List Key) (last : Bool) (newest : Option Row) (before : List Row) → option_to_list newest ≡ last_one before → run_row keys last before end ≡ end_gain last newest
run_row-end keys false newest before e = go newest
  where
    go : (o : Option Row) → [] ≡ end_gain false o
    go None = refl
    go (Some old) = refl
run_row-end keys true newest before e = ruled-last (same_key keys) before ∙ sent_last before ∙ ap (map (sends 0)) (sym e) ∙ go newest
  where
    go : (o : Option Row) → map (sends 0) (option_to_list o) ≡ end_gain true o
    go None = refl
    go (Some old) = refl
