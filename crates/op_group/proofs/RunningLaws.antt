-- What is kept for a result follows from one row to the next.
use Rattle.std.proofs.Common.{◌≡◌, ℕ, suc, ◌<◌, Bool, true, false, not, cond, List, [], ◌∷◌, ◌++◌, length, fold, filter, get_or, refl, sym, ap, ap₂, ◌∙◌, subst, arith}
use Rattle.std.specs.Prelude.{nat_lt}
use Rattle.std.specs.List.{AllByRecursion}
use Rattle.std.proofs.lemmas.Bool.{ltb-true}
use Rattle.std.proofs.lemmas.List.{get_or_default}
use Rattle.std.specs.Ordering.{is_lt}
use Rattle.std.proofs.lemmas.List.Elements.{filter-append}
use Rattle.std.proofs.lemmas.List.Sums.{fold-append}
use Rattle.streams.proofs.StreamLaws.{map-append}
use Rattle.ds_value.specs.declared.value.Value.{Value}
use Rattle.ds_value.specs.declared.value.Value.TheVariants.{Null, Int, UInt, Dec, Text, Date}
use Rattle.ds_value.specs.Values.{value_cmp}
use Rattle.ds_schema.specs.Rows.{at}
use Rattle.op_base.specs.Columns.{Row}
use Rattle.op_group.specs.declared.agg.Agg.TheVariants as agg
use Rattle.op_group.specs.declared.running.Kept.{Kept}
use Rattle.op_group.specs.declared.running.Running.{Running}
use Rattle.op_group.specs.declared.running.Running.TheVariants as running
use Rattle.op_group.specs.Results.{is_null, column, present, lesser, greater, least, greatest, first_value, last_value}
use Rattle.op_group.specs.Groups.{agg_suits}
use Rattle.op_group.specs.Kept.{shown, least_with, Follows, RunningStands, agg_of}

pub column-more : (col : ℕ) (rows : List Row) (r : Row) → column col (rows ++ r ∷ []) ≡ column col rows ++ at r col ∷ []
column-more col rows r = map-append (λ (s : Row). at s col) rows (r ∷ [])

one_shown : (v : Value) → filter (λ w. not (is_null w)) (v ∷ []) ≡ shown v
one_shown v = elim (is_null v) as (λ b. cond (not b) (v ∷ []) [] ≡ cond b [] (v ∷ [])) [ true ↦ refl | false ↦ refl ]

pub present-more : (col : ℕ) (rows : List Row) (r : Row) → present col (rows ++ r ∷ []) ≡ present col rows ++ shown (at r col)
present-more col rows r =
    ap (filter (λ v. not (is_null v))) (column-more col rows r) ∙ filter-append (λ v. not (is_null v)) (column col rows) (at r col ∷ []) ∙ ap (λ vs. present col rows ++ vs) (one_shown (at r col))

-- values that aren't null
abbrev AreShown : List Value → Type 0
AreShown values = AllByRecursion (λ v. is_null v ≡ false) values

all_shown : (values : List Value) → AreShown (filter (λ v. not (is_null v)) values)
all_shown [] = tt
all_shown (v ∷ values) = go (is_null v) refl (all_shown values)
  where
    go : (b : Bool) → is_null v ≡ b → AreShown (filter (λ w. not (is_null w)) values) → AreShown (cond (not b) (v ∷ filter (λ w. not (is_null w)) values) (filter (λ w. not (is_null w)) values))
    go true e h = h
    go false e h = (e, h)

lesser_shown : (v w : Value) → is_null v ≡ false → is_null w ≡ false → is_null (lesser v w) ≡ false
lesser_shown v w h k = elim (is_lt (value_cmp w v)) as (λ b. is_null (cond b w v) ≡ false) [ true ↦ k | false ↦ h ]

fold_shown : (v : Value) (values : List Value) → is_null v ≡ false → AreShown values → is_null (fold lesser v values) ≡ false
fold_shown v [] h k = h
fold_shown v (w ∷ values) h k = fold_shown (lesser v w) values (lesser_shown v w h k.0) k.1

least_null : (v : Value) → least_with Null v ≡ least (shown v)
least_null v = elim (is_null v) as (λ b. cond b Null v ≡ least (cond b [] (v ∷ []))) [ true ↦ refl | false ↦ refl ]

pub least-more : (values : List Value) (v : Value) → AreShown values → least_with (least values) v ≡ least (values ++ shown v)
least-more [] v h = least_null v
least-more (w ∷ values) v h =
    ap (λ b. cond (is_null v) (fold lesser w values) (cond b v (lesser (fold lesser w values) v))) (fold_shown w values h.0 h.1)
    ∙ elim (is_null v) as (λ b. cond b (fold lesser w values) (lesser (fold lesser w values) v) ≡ fold lesser (fold lesser w values) (cond b [] (v ∷ []))) [ true ↦ refl | false ↦ refl ]
    ∙ sym (fold-append lesser w values (shown v))

greater_null : (v : Value) → greater v Null ≡ v
greater_null Null = refl
greater_null (Int z) = refl
greater_null (UInt n) = refl
greater_null (Dec z) = refl
greater_null (Text b) = refl
greater_null (Date z) = refl

null_greater : (v : Value) → greater Null v ≡ greatest (shown v)
null_greater Null = refl
null_greater (Int z) = refl
null_greater (UInt n) = refl
null_greater (Dec z) = refl
null_greater (Text b) = refl
null_greater (Date z) = refl

greater_shown : (w v : Value) → greater w v ≡ fold greater w (shown v)
greater_shown w Null = greater_null w
greater_shown w (Int z) = refl
greater_shown w (UInt n) = refl
greater_shown w (Dec z) = refl
greater_shown w (Text b) = refl
greater_shown w (Date z) = refl

pub greatest-more : (values : List Value) (v : Value) → greater (greatest values) v ≡ greatest (values ++ shown v)
greatest-more [] v = null_greater v
greatest-more (w ∷ values) v = greater_shown (fold greater w values) v ∙ sym (fold-append greater w values (shown v))

last-more : (values : List Value) (v : Value) → last_value (values ++ v ∷ []) ≡ v
last-more [] v = refl
last-more (w ∷ []) v = refl
last-more (w ∷ (x ∷ values)) v = last-more (x ∷ values) v

first-more : (values : List Value) (v : Value) (n : ℕ) → length values ≡ suc n → first_value (values ++ v ∷ []) ≡ first_value values
first-more [] v n e = absurd (omega arith)
first-more (w ∷ values) v n e = refl

-- a value that was read where the column is
read_at : (row values : Row) (col : ℕ) (v : Value) → nat_lt col (length row) ≡ true → values ≡ row → v ≡ get_or values col v → v ≡ at row col
read_at row values col v there same read =
    let lt : col < length row = ltb-true col (length row) there in
    read ∙ ap (λ vs. get_or vs col v) same ∙ get_or_default row col v Null lt

module _ (before : ℕ) (row values : Row) (self : Running) (old new : Kept) (v : Value) (suits : agg_suits row (agg_of self) ≡ true) (same : values ≡ row) (read : v ≡ get_or values old.col v) (col : new.col ≡ old.col) where
  seen_at : (running : Running) → self ≡ running → nat_lt old.col (length row) ≡ agg_suits row (agg_of running) → v ≡ at row old.col
  seen_at r is e = read_at row values old.col v (e ∙ sym (ap (λ s. agg_suits row (agg_of s)) is) ∙ suits) same read

  pub follows_min : self ≡ running.Min old → new.value ≡ least_with old.value v → Follows before row self (running.Min new)
  follows_min is value = record {
    agg_is = ap agg.Min col ∙ ap agg_of (sym is);
    stands = λ rows e h.
        let k : old.value ≡ least (present old.col rows) = subst (RunningStands rows) is h in
        value ∙ ap₂ least_with k (seen_at (running.Min old) is refl) ∙ least-more (present old.col rows) (at row old.col) (all_shown (column old.col rows))
        ∙ ap least (sym (present-more old.col rows row)) ∙ ap (λ c. least (present c (rows ++ row ∷ []))) (sym col);
  }

  pub follows_max : self ≡ running.Max old → new.value ≡ greater old.value v → Follows before row self (running.Max new)
  follows_max is value = record {
    agg_is = ap agg.Max col ∙ ap agg_of (sym is);
    stands = λ rows e h.
        let k : old.value ≡ greatest (present old.col rows) = subst (RunningStands rows) is h in
        value ∙ ap₂ greater k (seen_at (running.Max old) is refl) ∙ greatest-more (present old.col rows) (at row old.col)
        ∙ ap greatest (sym (present-more old.col rows row)) ∙ ap (λ c. greatest (present c (rows ++ row ∷ []))) (sym col);
  }

  pub follows_last : self ≡ running.Last old → new.value ≡ v → Follows before row self (running.Last new)
  follows_last is value = record {
    agg_is = ap agg.Last col ∙ ap agg_of (sym is);
    stands = λ rows e h.
        value ∙ seen_at (running.Last old) is refl ∙ sym (last-more (column old.col rows) (at row old.col))
        ∙ ap last_value (sym (column-more old.col rows row)) ∙ ap (λ c. last_value (column c (rows ++ row ∷ []))) (sym col);
  }
