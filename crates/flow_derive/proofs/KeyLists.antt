-- Key lists that are made of others name no column twice.
use Rattle.std.proofs.Common.{Bool, List, None, Option, Some, ap, arith, cond, false, filter, get_or, length, not, refl, subst, suc, sym, true, zero, ℕ, ◌+◌, ◌<◌, ◌≤◌, ◌||◌, ◌==◌, ◌≡◌, ◌∷◌, ◌++◌, ◌∙◌, []}
use Rattle.std.proofs.lemmas.Bool.Decides.{nat_tests}
use Rattle.std.proofs.lemmas.Map.Steps.{length-le_from_distinct_below}
use Rattle.std.specs.List.{AllByRecursion, IsDistinct, list_any, range_with_len}
use Rattle.std.specs.Prelude.{eqb}
use Rattle.ds_schema.specs.Rows.{KeysDiffer, cols}
use Rattle.ds_schema.specs.declared.key.Key.{Key}
use Rattle.op_base.specs.Columns.{Pairs, all_columns, column_in, everything, is_in, pairs_of}
use Rattle.op_base.specs.Keyed.{without}
use Rattle.op_base.specs.RowOperators.{not_set, transform_passes}
use Rattle.flow_graph.specs.Charts.{main_passes}
use Rattle.flow_derive.specs.Derive.{carried_sort, first_keys, key_if}
use Rattle.flow_derive.specs.Outlines.{OutputsDiffer}

above : (m n : ℕ) (keys : List Key) → m < n → AllByRecursion (λ (k : Key). m ≡ k.col → ⊥) (first_keys n keys)
above m n [] h = tt
above m n (k ∷ keys) h = ((λ e. absurd (omega arith)), above m (suc n) keys (omega arith))

pub first_differ : (n : ℕ) (keys : List Key) → KeysDiffer (first_keys n keys)
first_differ n [] = tt
first_differ n (k ∷ keys) = (above n (suc n) keys (omega arith), first_differ (suc n) keys)

-- an output column of some pairs isn't one that they all differ from
out_in : (m : Pairs) (b c d : ℕ) → column_in m b ≡ Some c → AllByRecursion (λ (f : ℕ × ℕ). d ≡ f.1 → ⊥) m → d ≡ c → ⊥
out_in [] b c d e h g = cc
out_in (f ∷ m) b c d e h g = go (f.0 == b) e (λ k. out_in m b c d k h.1 g)
  where
    go : (t : Bool) → cond t (Some (f.1)) (column_in m b) ≡ Some c → (column_in m b ≡ Some c → ⊥) → ⊥
    go true k r = let same : f.1 ≡ c = cc in h.0 (g ∙ sym same)
    go false k r = r k

column_once : (m : Pairs) (a b c : ℕ) → OutputsDiffer m → column_in m a ≡ Some c → column_in m b ≡ Some c → a ≡ b
column_once [] a b c h e f = cc
column_once (p ∷ m) a b c h e f = go (p.0 == a) refl (p.0 == b) refl e f (λ j k. column_once m a b c h.1 j k)
  where
    go : (s : Bool) → (p.0 == a) ≡ s → (t : Bool) → (p.0 == b) ≡ t → cond s (Some (p.1)) (column_in m a) ≡ Some c → cond t (Some (p.1)) (column_in m b) ≡ Some c → (column_in m a ≡ Some c → column_in m b ≡ Some c → a ≡ b) → a ≡ b
    go true x true y j k r = let u : p.0 ≡ a = grind (arith, nat_tests) in let v : p.0 ≡ b = grind (arith, nat_tests) in sym u ∙ v
    go true x false y j k r = let same : p.1 ≡ c = cc in absurd (out_in m b c (p.1) k h.0 same)
    go false x true y j k r = let same : p.1 ≡ c = cc in absurd (out_in m a c (p.1) j h.0 same)
    go false x false y j k r = r j k

apart_carried : (m : Pairs) (a c : ℕ) (keys : List Key) → OutputsDiffer m → column_in m a ≡ Some c → AllByRecursion (λ (k : Key). a ≡ k.col → ⊥) keys → AllByRecursion (λ (k : Key). c ≡ k.col → ⊥) (carried_sort m keys)
apart_carried m a c [] h e d = tt
apart_carried m a c (k ∷ keys) h e d = go (column_in m k.col) refl (apart_carried m a c keys h e d.1)
  where
    go : (o : Option ℕ) → column_in m k.col ≡ o → AllByRecursion (λ (j : Key). c ≡ j.col → ⊥) (carried_sort m keys) → AllByRecursion (λ (j : Key). c ≡ j.col → ⊥) (key_if o k.desc (carried_sort m keys))
    go None f r = tt
    go (Some b) f r = ((λ g. d.0 (column_once m a k.col c h e (f ∙ ap Some (sym g)))), r)

pub carried_differ : (m : Pairs) (keys : List Key) → OutputsDiffer m → KeysDiffer keys → KeysDiffer (carried_sort m keys)
carried_differ m [] h d = tt
carried_differ m (k ∷ keys) h d = go (column_in m k.col) refl (carried_differ m keys h d.1)
  where
    go : (o : Option ℕ) → column_in m k.col ≡ o → KeysDiffer (carried_sort m keys) → KeysDiffer (key_if o k.desc (carried_sort m keys))
    go None f r = tt
    go (Some b) f r = (apart_carried m k.col b keys h f d.0, r)

differ_filter : (p : Key → Bool) (P : Key → Type 0) (keys : List Key) → AllByRecursion P keys → AllByRecursion P (filter p keys)
differ_filter p P [] h = tt
differ_filter p P (k ∷ keys) h = go (p k) (differ_filter p P keys h.1)
  where
    go : (b : Bool) → AllByRecursion P (filter p keys) → AllByRecursion P (cond b (k ∷ filter p keys) (filter p keys))
    go true r = (h.0, r)
    go false r = r

filtered_differ : (p : Key → Bool) (keys : List Key) → KeysDiffer keys → KeysDiffer (filter p keys)
filtered_differ p [] h = tt
filtered_differ p (k ∷ keys) h = go (p k) (filtered_differ p keys h.1)
  where
    go : (b : Bool) → KeysDiffer (filter p keys) → KeysDiffer (cond b (k ∷ filter p keys) (filter p keys))
    go true r = (differ_filter p (λ o. k.col ≡ o.col → ⊥) keys h.0, r)
    go false r = r

-- what is left of the old keys names none of the new keys' columns
apart_left : (keys old : List Key) (c : ℕ) → is_in c (cols keys) ≡ true → AllByRecursion (λ (k : Key). c ≡ k.col → ⊥) (without keys old)
apart_left keys [] c h = tt
apart_left keys (o ∷ old) c h = go (is_in o.col (cols keys)) refl (apart_left keys old c h)
  where
    go : (b : Bool) → is_in o.col (cols keys) ≡ b → AllByRecursion (λ (k : Key). c ≡ k.col → ⊥) (without keys old) → AllByRecursion (λ (k : Key). c ≡ k.col → ⊥) (cond (not b) (o ∷ without keys old) (without keys old))
    go true e r = r
    go false e r = ((λ g. let t : is_in o.col (cols keys) ≡ true = subst (λ x. is_in x (cols keys) ≡ true) g h in cc), r)

onto_differ : (keys xs ys : List Key) → KeysDiffer xs → KeysDiffer ys → ((c : ℕ) → is_in c (cols xs) ≡ true → AllByRecursion (λ (k : Key). c ≡ k.col → ⊥) ys) → KeysDiffer (xs ++ ys)
onto_differ keys [] ys hx hy f = hy
onto_differ keys (x ∷ xs) ys hx hy f = (all_both xs ys hx.0 (f x.col (itself x.col)), onto_differ keys xs ys hx.1 hy (λ c i. f c (among c i)))
  where
    all_both : (zs ys : List Key) → AllByRecursion (λ (k : Key). x.col ≡ k.col → ⊥) zs → AllByRecursion (λ (k : Key). x.col ≡ k.col → ⊥) ys → AllByRecursion (λ (k : Key). x.col ≡ k.col → ⊥) (zs ++ ys)
    all_both [] ys a b = b
    all_both (z ∷ zs) ys a b = (a.0, all_both zs ys a.1 b)

    itself : (c : ℕ) → cond (c == c) true (is_in c (cols xs)) ≡ true
    itself c = grind (arith, nat_tests)

    among : (c : ℕ) → is_in c (cols xs) ≡ true → cond (c == x.col) true (is_in c (cols xs)) ≡ true
    among c i = pick (c == x.col)
      where
        pick : (b : Bool) → cond b true (is_in c (cols xs)) ≡ true
        pick true = refl
        pick false = i

pub resorted_differ : (keys old : List Key) → KeysDiffer keys → KeysDiffer old → KeysDiffer (keys ++ without keys old)
resorted_differ keys old h g = onto_differ keys keys (without keys old) h (filtered_differ (λ k. not (is_in k.col (cols keys))) old g) (λ c i. apart_left keys old c i)

columns_apart : (c : ℕ) (keys : List Key) → AllByRecursion (λ (k : Key). c ≡ k.col → ⊥) keys → AllByRecursion (λ d. eqb c d ≡ false) (cols keys)
columns_apart c [] h = tt
columns_apart c (k ∷ keys) h = (no (eqb c k.col) refl, columns_apart c keys h.1)
  where
    no : (b : Bool) → eqb c k.col ≡ b → eqb c k.col ≡ false
    no true e = absurd (h.0 (grind (arith, nat_tests)))
    no false e = e

columns_distinct : (keys : List Key) → KeysDiffer keys → IsDistinct eqb (cols keys)
unfolding IsDistinct
columns_distinct [] h = tt
columns_distinct (k ∷ keys) h = (columns_apart k.col keys h.0, columns_distinct keys h.1)

all_below : (xs : List ℕ) (n : ℕ) → ((i : ℕ) → get_or xs i 0 < n) → (q : ℕ) → list_any (eqb q) xs ≡ true → q < n
all_below [] n h q e = cc
all_below (x ∷ xs) n h q e = go (eqb q x) refl e (λ f. all_below xs n (λ i. h (suc i)) q f)
  where
    go : (b : Bool) → eqb q x ≡ b → (b || list_any (eqb q) xs) ≡ true → (list_any (eqb q) xs ≡ true → q < n) → q < n
    go true f g r = let same : q ≡ x = grind (arith, nat_tests) in subst (λ y. y < n) (sym same) (h 0)
    go false f g r = r g

length_columns : (keys : List Key) → length (cols keys) ≡ length keys
length_columns [] = refl
length_columns (k ∷ keys) = ap suc (length_columns keys)

-- keys of different columns are no more than the numbers that columns may have
pub few_keys : (keys : List Key) (xs : List ℕ) (n : ℕ) → KeysDiffer keys → xs ≡ cols keys → ((i : ℕ) → get_or xs i 0 < n) → length keys ≤ n
few_keys keys xs n d e h = subst (λ m. m ≤ n) (length_columns keys) (length-le_from_distinct_below (cols keys) n (columns_distinct keys d) (all_below (cols keys) n (λ i. subst (λ ys. get_or ys i 0 < n) e (h i))))

-- no number stands twice
abbrev pub Apart : List ℕ → Type 0
Apart [] = Unit {0}
Apart (d ∷ ds) = AllByRecursion (λ e. d ≡ e → ⊥) ds × Apart ds

pairs_apart : (d : ℕ) (cs ds : List ℕ) → AllByRecursion (λ e. d ≡ e → ⊥) ds → AllByRecursion (λ (f : ℕ × ℕ). d ≡ f.1 → ⊥) (pairs_of cs ds)
pairs_apart d [] ds h = tt
pairs_apart d (c ∷ cs) [] h = tt
pairs_apart d (c ∷ cs) (e ∷ ds) h = (h.0, pairs_apart d cs ds h.1)

pairs_differ : (cs ds : List ℕ) → Apart ds → OutputsDiffer (pairs_of cs ds)
pairs_differ [] ds h = tt
pairs_differ (c ∷ cs) [] h = tt
pairs_differ (c ∷ cs) (d ∷ ds) h = (pairs_apart d cs ds h.0, pairs_differ cs ds h.1)

range_above : (m a n : ℕ) → m < a → AllByRecursion (λ e. m ≡ e → ⊥) (range_with_len a n)
range_above m a zero h = tt
range_above m a (suc n) h = ((λ e. absurd (omega arith)), range_above m (a + 1) n (omega arith))

range_apart : (a n : ℕ) → Apart (range_with_len a n)
range_apart a zero = tt
range_apart a (suc n) = (range_above a (a + 1) n (omega arith), range_apart (a + 1) n)

all_filter : (p : ℕ → Bool) (P : ℕ → Type 0) (cs : List ℕ) → AllByRecursion P cs → AllByRecursion P (filter p cs)
all_filter p P [] h = tt
all_filter p P (c ∷ cs) h = go (p c) (all_filter p P cs h.1)
  where
    go : (b : Bool) → AllByRecursion P (filter p cs) → AllByRecursion P (cond b (c ∷ filter p cs) (filter p cs))
    go true r = (h.0, r)
    go false r = r

filter_apart : (p : ℕ → Bool) (cs : List ℕ) → Apart cs → Apart (filter p cs)
filter_apart p [] h = tt
filter_apart p (c ∷ cs) h = go (p c) (filter_apart p cs h.1)
  where
    go : (b : Bool) → Apart (filter p cs) → Apart (cond b (c ∷ filter p cs) (filter p cs))
    go true r = (all_filter p (λ e. c ≡ e → ⊥) cs h.0, r)
    go false r = r

pub left_differ : (m : Pairs) (targets : List ℕ) (w : ℕ) → m ≡ pairs_of (not_set targets (all_columns w)) (not_set targets (all_columns w)) → OutputsDiffer m
left_differ m targets w e = subst OutputsDiffer (sym e) (pairs_differ (not_set targets (all_columns w)) (not_set targets (all_columns w)) (filter_apart (λ c. cond (is_in c targets) false true) (all_columns w) (range_apart 0 w)))

pub kept_differ : (m : Pairs) (cs : List ℕ) (n : ℕ) → m ≡ pairs_of cs (all_columns n) → OutputsDiffer m
kept_differ m cs n e = subst OutputsDiffer (sym e) (pairs_differ cs (all_columns n) (range_apart 0 n))

pub later_transform : (width : ℕ) (targets : List ℕ) (q : ℕ) → (q ≡ 0 → ⊥) → transform_passes width targets q ≡ everything
later_transform width targets zero h = absurd (h refl)
later_transform width targets (suc q) h = refl

pub later_lookup : (width q : ℕ) → (q ≡ 0 → ⊥) → main_passes width q ≡ everything
later_lookup width zero h = absurd (h refl)
later_lookup width (suc q) h = refl
