-- The distinct key values of some rows after one row more.
use Rattle.std.proofs.Common.{◌≡◌, ℕ, Bool, true, false, not, ◌||◌, cond, ap, ap₂, sym, refl, ◌∙◌, true≢false, List, [], ◌∷◌, ◌++◌, filter, map}
use Rattle.std.specs.List.{AllByRecursion, list_any}
use Rattle.std.proofs.lemmas.List.Elements.{filter-append}
use Rattle.ds_value.specs.declared.value.Value.{Value}
use Rattle.ds_schema.specs.Rows.{val, has, sub}
use Rattle.op_base.specs.Columns.{Row}
use Rattle.op_base.specs.Keyed.{same_vals, seen}
use Rattle.op_base.proofs.All.{all_filter, all_map}
use Rattle.op_base.proofs.KeyValues.{same_vals_true, order_all}
use Rattle.op_base.proofs.Orders.{val_has}
use Rattle.op_group.proofs.Told.{same_sym}

-- a value is one of some
abbrev pub among : List Value → List (List Value) → Bool
among v qs = list_any (same_vals v) qs

pub seen-more : (qs : List (List Value)) (v : List Value) → seen (qs ++ v ∷ []) ≡ seen qs ++ cond (among v qs) [] (v ∷ [])
seen-more [] v = refl
seen-more (q ∷ qs) v =
    ap (λ us. q ∷ filter (λ u. not (same_vals q u)) us) (seen-more qs v)
    ∙ ap (λ us. q ∷ us) (filter-append (λ u. not (same_vals q u)) (seen qs) (cond (among v qs) [] (v ∷ [])) ∙ ap (λ t. filter (λ u. not (same_vals q u)) (seen qs) ++ t) (go (among v qs) (same_vals q v) (same_vals v q) refl (same_sym q v)))
  where
    go : (b c d : Bool) → same_vals q v ≡ c → c ≡ d → filter (λ u. not (same_vals q u)) (cond b [] (v ∷ [])) ≡ cond (d || b) [] (v ∷ [])
    go true c true e f = refl
    go true c false e f = refl
    go false c true e f = ap (λ x. cond (not x) (v ∷ []) []) (e ∙ f)
    go false c false e f = ap (λ x. cond (not x) (v ∷ []) []) (e ∙ f)

-- what is seen of some values is what they are
among_filter : (v : List Value) (p : List Value → Bool) → ((u : List Value) → same_vals v u ≡ true → p u ≡ true) → (qs : List (List Value)) → among v (filter p qs) ≡ among v qs
among_filter v p h [] = refl
among_filter v p h (q ∷ qs) = go (p q) refl (same_vals v q) refl (among_filter v p h qs)
  where
    go : (b : Bool) → p q ≡ b → (c : Bool) → same_vals v q ≡ c → among v (filter p qs) ≡ among v qs → among v (cond b (q ∷ filter p qs) (filter p qs)) ≡ (c || among v qs)
    go true e c f k = ap₂ (λ x y. x || y) f k
    go false e true f k = absurd (true≢false (sym (h q f) ∙ e))
    go false e false f k = k

pub among-seen : (v : List Value) (qs : List (List Value)) → among v (seen qs) ≡ among v qs
among-seen v [] = refl
among-seen v (q ∷ qs) = go (same_vals v q) refl (among-seen v qs)
  where
    go : (b : Bool) → same_vals v q ≡ b → among v (seen qs) ≡ among v qs → (b || among v (filter (λ u. not (same_vals q u)) (seen qs))) ≡ (b || among v qs)
    go true e k = refl
    go false e k = among_filter v (λ u. not (same_vals q u)) (λ u t. ap not (ap (same_vals q) (same_vals_true v u t) ∙ same_sym q v ∙ e)) (seen qs) ∙ k

abbrev pub AllDiffer : List Value → List (List Value) → Type 0
AllDiffer v qs = AllByRecursion (λ u. same_vals v u ≡ false) qs

-- each of them differs from the others
abbrev pub AreApart : List (List Value) → Type 0
AreApart [] = Unit {0}
AreApart (q ∷ qs) = AllDiffer q qs × AreApart qs

apart_filter : (p : List Value → Bool) (qs : List (List Value)) → AreApart qs → AreApart (filter p qs)
apart_filter p [] h = tt
apart_filter p (q ∷ qs) h = go (p q) (apart_filter p qs h.1)
  where
    go : (b : Bool) → AreApart (filter p qs) → AreApart (cond b (q ∷ filter p qs) (filter p qs))
    go true k = (all_filter (λ u. same_vals q u ≡ false) p qs h.0, k)
    go false k = k

left_apart : (q : List Value) (qs : List (List Value)) → AllDiffer q (filter (λ u. not (same_vals q u)) qs)
left_apart q [] = tt
left_apart q (u ∷ qs) = go (same_vals q u) refl (left_apart q qs)
  where
    go : (b : Bool) → same_vals q u ≡ b → AllDiffer q (filter (λ w. not (same_vals q w)) qs) → AllDiffer q (cond (not b) (u ∷ filter (λ w. not (same_vals q w)) qs) (filter (λ w. not (same_vals q w)) qs))
    go true e k = k
    go false e k = (e, k)

pub seen_apart : (qs : List (List Value)) → AreApart (seen qs)
seen_apart [] = tt
seen_apart (q ∷ qs) = (left_apart q (seen qs), apart_filter (λ u. not (same_vals q u)) (seen qs) (seen_apart qs))

-- Rows of a key value
module _ (cs : List ℕ) where
  pub sub-more : (u : List Value) (rows : List Row) (r : Row) → sub cs u (rows ++ r ∷ []) ≡ sub cs u rows ++ cond (same_vals u (val cs r)) (r ∷ []) []
  sub-more u rows r = filter-append (has cs u) rows (r ∷ [])

  pub none_sub : (v : List Value) (rows : List Row) → among v (map (val cs) rows) ≡ false → sub cs v rows ≡ []
  none_sub v [] e = refl
  none_sub v (r ∷ rows) e = go (same_vals v (val cs r)) e (none_sub v rows)
    where
      go : (b : Bool) → (b || among v (map (val cs) rows)) ≡ false → (among v (map (val cs) rows) ≡ false → sub cs v rows ≡ []) → cond b (r ∷ sub cs v rows) (sub cs v rows) ≡ []
      go true f k = absurd (true≢false f)
      go false f k = k f

  -- each value that is seen has a row
  abbrev pub HasRow : List Row → List Value → Type 0
  HasRow rows v = (first : Row) × (rest : List Row) × (sub cs v rows ≡ first ∷ rest)

  row_behind : (a : Row) (rows : List Row) (v : List Value) → HasRow rows v → HasRow (a ∷ rows) v
  row_behind a rows v h = go (has cs v a)
    where
      go : (b : Bool) → (first : Row) × (rest : List Row) × (cond b (a ∷ sub cs v rows) (sub cs v rows) ≡ first ∷ rest)
      go true = (a, sub cs v rows, refl)
      go false = h

  rows_there : (rows : List Row) → AllByRecursion (HasRow rows) (map (val cs) rows)
  rows_there [] = tt
  rows_there (r ∷ rows) = (
    (r, sub cs (val cs r) rows, ap (λ b. cond b (r ∷ sub cs (val cs r) rows) (sub cs (val cs r) rows)) (val_has cs (val cs r) r refl)),
    all_map (HasRow rows) (HasRow (r ∷ rows)) (row_behind r rows) (map (val cs) rows) (rows_there rows),
  )

  pub seen_there : (rows : List Row) → AllByRecursion (HasRow rows) (seen (map (val cs) rows))
  seen_there rows = order_all (HasRow rows) true [] (map (val cs) rows) (rows_there rows)
