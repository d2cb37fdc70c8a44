-- Where no part of a need is missed, the needs of operators and routes are met.
use Rattle.std.proofs.Common.{◌≡◌, ℕ, zero, suc, ◌+◌, ◌<◌, ◌==◌, Bool, true, false, cond, not, ◌&&◌, ◌||◌, ◌⊎◌, inl, inr, List, [], ◌∷◌, ◌++◌, filter, refl, sym, ap, ap₂, ◌∙◌, subst, arith, length, get_or, Option, Some, None}
use Rattle.std.specs.List.{AllByRecursion, range_with_len}
use Rattle.std.proofs.lemmas.Bool.Decides.{nat_tests}
use Rattle.ds_schema.specs.declared.key.Key.{Key}
use Rattle.ds_schema.specs.Rows.{cols, KeysDiffer}
use Rattle.op_base.specs.Columns.{IsIn, pairs_of, column_in}
use Rattle.op_base.specs.Keyed.{get_keys}
use Rattle.ds_place.specs.declared.place.Place.TheVariants.{Hash, Modulus}
use Rattle.flow_graph.specs.declared.route.Route.{Route}
use Rattle.flow_graph.specs.declared.route.Route.TheVariants as route
use Rattle.flow_graph.specs.declared.state.Spot.{Spot}
use Rattle.flow_graph.specs.declared.state.Spot.TheVariants as spot
use Rattle.flow_graph.specs.declared.state.State.{State}
use Rattle.flow_graph.specs.Forms.{Form, form}
use Rattle.flow_graph.specs.Operators.{Op, import, dsread, by_row, tsort, remdup, group, join, merge, lookup, changecapture, funnel, funnel_sequence, funnel_sort}
use Rattle.flow_graph.specs.Shapes.{FitsPorts, KeysDistinct}
use Rattle.flow_derive.specs.Derive.{with_column, carried, carried_place, hashed_if, modulus_if, first_keys, same_place, placed_in, agrees_in, first_state}
use Rattle.flow_rules.specs.Needs.{first_place, part_if, keyed_needs, needs, is_entire, same_way, begins_with, meets, missed, route_needs, route_missed}
use Rattle.flow_rules.specs.declared.need.Need.{Need}
use Rattle.flow_rules.specs.declared.need.Need.TheVariants as part
use Rattle.flow_rules.proofs.NeedTypes.{key_place, Begins, OneState, SomeStates, NotEntire, SortedBy, AgreesIf, SortedIf, OtherNeeds, KeyedNeeds, ReferenceAt, Needs, RouteNeeds}
use Rattle.flow_rules.proofs.FunnelOps.{same_place_true}
use Rattle.op_base.proofs.All.{both_true}

-- nothing is missed: each part is met
none_missed : {X : Type 0} (p : X → Bool) (xs : List X) → filter (λ x. not (p x)) xs ≡ [] → AllByRecursion (λ x. p x ≡ true) xs
none_missed p [] e = tt
none_missed {X} p (x ∷ xs) e = go (p x) refl (none_missed p xs) e
  where
    go : (b : Bool) → p x ≡ b → (filter (λ y. not (p y)) xs ≡ [] → AllByRecursion (λ (y : X). p y ≡ true) xs) → cond (not b) (x ∷ filter (λ y. not (p y)) xs) (filter (λ y. not (p y)) xs) ≡ [] → (p x ≡ true) × AllByRecursion (λ (y : X). p y ≡ true) xs
    go true f rec h = (f, rec h)
    go false f rec h = cc

at_range : (P : ℕ → Type 0) (i a n : ℕ) → AllByRecursion P (range_with_len a n) → i < n → P (a + i)
at_range P i a zero h l = absurd (omega arith)
at_range P zero a (suc n) h l = let e : a ≡ a + 0 = omega arith in subst P e h.0
at_range P (suc i) a (suc n) h l = let e : (a + 1) + i ≡ a + suc i = omega arith in subst P e (at_range P i (a + 1) n h.1 (omega arith))

not_entire : (s : State) → not (is_entire s.place) ≡ true → NotEntire s
not_entire s e f = let g : not (is_entire spot.Entire) ≡ true = subst (λ p. not (is_entire p) ≡ true) f e in cc

same_key : (k s : Key) → k.col ≡ s.col → k.desc ≡ s.desc → k ≡ s
same_key k s e f = ap₂ (λ c d. record { col = c; desc = d }) e f

same_way_true : (a b : Bool) → same_way a b ≡ true → a ≡ b
same_way_true true b e = sym e
same_way_true false true e = cc
same_way_true false false e = refl

begins : (K sort : List Key) → begins_with K sort ≡ true → Begins K sort
begins [] sort e = (sort, refl)
begins (k ∷ K) [] e = cc
begins (k ∷ K) (s ∷ sort) e =
    let t = both_true (k.col == s.col) (same_way k.desc s.desc && begins_with K sort) e in
    let u = both_true (same_way k.desc s.desc) (begins_with K sort) t.1 in
    let r = begins K sort u.1 in
    (r.0, ap₂ (λ a b. a ∷ b) (sym (same_key k s (num k.col s.col t.0) (same_way_true k.desc s.desc u.0))) r.1)
  where
    num : (a b : ℕ) → (a == b) ≡ true → a ≡ b
    num a b f = grind (arith, nat_tests)

-- a column of an input, over another input, has the number that it has among its keys
in_targets : (cs ds : List ℕ) (c d : ℕ) → column_in (pairs_of cs ds) c ≡ Some d → IsIn d ds
in_targets [] ds c d e = cc
in_targets (x ∷ cs) [] c d e = cc
in_targets (x ∷ cs) (y ∷ ds) c d e = go (x == c) e (in_targets cs ds c d)
  where
    go : (b : Bool) → cond b (Some y) (column_in (pairs_of cs ds) c) ≡ Some d → (column_in (pairs_of cs ds) c ≡ Some d → IsIn d ds) → IsIn d (y ∷ ds)
    go true f rec = inl cc
    go false f rec = inr (rec f)

not_here : (k : Key) (keys : List Key) (d : ℕ) → AllByRecursion (λ (other : Key). k.col ≡ other.col → ⊥) keys → IsIn d (cols keys) → (k.col == d) ≡ false
not_here k [] d h i = absurd i
not_here k (x ∷ keys) d h (inl e) = apart k.col d (λ f. h.0 (f ∙ e))
  where
    apart : (a b : ℕ) → (a ≡ b → ⊥) → (a == b) ≡ false
    apart a b n = grind (arith, nat_tests)
not_here k (x ∷ keys) d h (inr i) = not_here k keys d h.1 i

itself : (n : ℕ) → (n == n) ≡ true
itself n = grind (arith, nat_tests)

column_over : (K0 K : List Key) (n c d : ℕ) → KeysDiffer K → column_in (pairs_of (cols K0) (cols K)) c ≡ Some d → column_in (pairs_of (cols K) (cols (first_keys n K))) d ≡ column_in (pairs_of (cols K0) (cols (first_keys n K0))) c
column_over [] K n c d u e = cc
column_over (x ∷ K0) [] n c d u e = cc
column_over (x ∷ K0) (y ∷ K) n c d u e = go (x.col == c) e (λ f. column_over K0 K (suc n) c d u.1 f)
  where
    go : (b : Bool) → cond b (Some y.col) (column_in (pairs_of (cols K0) (cols K)) c) ≡ Some d →
        (column_in (pairs_of (cols K0) (cols K)) c ≡ Some d → column_in (pairs_of (cols K) (cols (first_keys (suc n) K))) d ≡ column_in (pairs_of (cols K0) (cols (first_keys (suc n) K0))) c) →
        cond (y.col == d) (Some n) (column_in (pairs_of (cols K) (cols (first_keys (suc n) K))) d) ≡ cond b (Some n) (column_in (pairs_of (cols K0) (cols (first_keys (suc n) K0))) c)
    go true f rec = let g : y.col ≡ d = cc in ap (λ b. cond b (Some n) (column_in (pairs_of (cols K) (cols (first_keys (suc n) K))) d)) (ap (λ z. y.col == z) (sym g) ∙ itself y.col)
    go false f rec = ap (λ b. cond b (Some n) (column_in (pairs_of (cols K) (cols (first_keys (suc n) K))) d)) (not_here y K d u.0 (in_targets (cols K0) (cols K) c d f)) ∙ rec f

columns_over : (K0 K : List Key) (C D : List ℕ) → KeysDiffer K → carried (pairs_of (cols K0) (cols K)) C ≡ Some D → carried (pairs_of (cols K) (cols (first_keys 0 K))) D ≡ carried (pairs_of (cols K0) (cols (first_keys 0 K0))) C
columns_over K0 K [] D u e = let f : D ≡ [] = cc in ap (carried (pairs_of (cols K) (cols (first_keys 0 K)))) f
columns_over K0 K (c ∷ C) D u e = go (column_in (pairs_of (cols K0) (cols K)) c) refl (carried (pairs_of (cols K0) (cols K)) C) refl e (λ ds f. columns_over K0 K C ds u f)
  where
    go : (a : Option ℕ) → column_in (pairs_of (cols K0) (cols K)) c ≡ a → (b : Option (List ℕ)) → carried (pairs_of (cols K0) (cols K)) C ≡ b → with_column a b ≡ Some D →
        ((ds : List ℕ) → carried (pairs_of (cols K0) (cols K)) C ≡ Some ds → carried (pairs_of (cols K) (cols (first_keys 0 K))) ds ≡ carried (pairs_of (cols K0) (cols (first_keys 0 K0))) C) →
        carried (pairs_of (cols K) (cols (first_keys 0 K))) D ≡ with_column (column_in (pairs_of (cols K0) (cols (first_keys 0 K0))) c) (carried (pairs_of (cols K0) (cols (first_keys 0 K0))) C)
    go None f b g h rec = cc
    go (Some d) f None g h rec = cc
    go (Some d) f (Some ds) g h rec =
        let shape : D ≡ d ∷ ds = cc in
        ap (carried (pairs_of (cols K) (cols (first_keys 0 K)))) shape ∙ ap₂ with_column (column_over K0 K 0 c d u f) (rec ds g)

no_place : (p : Spot) → same_place p spot.None ≡ true → ⊥
no_place spot.Solo e = cc
no_place (spot.Placed (Hash C)) e = cc
no_place (spot.Placed (Modulus c)) e = cc
no_place spot.Entire e = cc
no_place spot.None e = cc

no_entire : (p : Spot) → same_place p spot.Entire ≡ true → ⊥
no_entire spot.Solo e = cc
no_entire (spot.Placed (Hash C)) e = cc
no_entire (spot.Placed (Modulus c)) e = cc
no_entire spot.Entire e = cc
no_entire spot.None e = cc

-- the same by names is the same by the numbers of keys
same_numbers : (K0 K : List Key) (p q : Spot) → KeysDiffer K → same_place p (carried_place (pairs_of (cols K0) (cols K)) q) ≡ true → key_place K p ≡ key_place K0 q
same_numbers K0 K p spot.Solo u e = ap (key_place K) (same_place_true p spot.Solo e)
same_numbers K0 K p spot.Entire u e = absurd (no_place p e)
same_numbers K0 K p spot.None u e = absurd (no_place p e)
same_numbers K0 K p (spot.Placed (Hash C)) u e = go (carried (pairs_of (cols K0) (cols K)) C) refl e
  where
    go : (a : Option (List ℕ)) → carried (pairs_of (cols K0) (cols K)) C ≡ a → same_place p (hashed_if a) ≡ true → key_place K p ≡ hashed_if (carried (pairs_of (cols K0) (cols (first_keys 0 K0))) C)
    go None f h = absurd (no_place p h)
    go (Some D) f h = ap (key_place K) (same_place_true p (spot.Placed (Hash D)) h) ∙ ap hashed_if (columns_over K0 K C D u f)
same_numbers K0 K p (spot.Placed (Modulus c)) u e = go (column_in (pairs_of (cols K0) (cols K)) c) refl e
  where
    go : (a : Option ℕ) → column_in (pairs_of (cols K0) (cols K)) c ≡ a → same_place p (modulus_if a) ≡ true → key_place K p ≡ modulus_if (column_in (pairs_of (cols K0) (cols (first_keys 0 K0))) c)
    go None f h = absurd (no_place p h)
    go (Some d) f h = ap (key_place K) (same_place_true p (spot.Placed (Modulus d)) h) ∙ ap modulus_if (column_over K0 K 0 c d u f)

-- parts that stand under a condition
if_agree : (b : Bool) (first : Spot) (K : List Key) (s : State) (rest : List Need) → AllByRecursion (λ (n : Need). meets first s n ≡ true) (part_if b (part.Agree K) ++ rest) → AgreesIf b K s × AllByRecursion (λ (n : Need). meets first s n ≡ true) rest
if_agree true first K s rest h = (h.0, h.1)
if_agree false first K s rest h = (tt, h)

if_sorted : (b : Bool) (first : Spot) (K : List Key) (s : State) → AllByRecursion (λ (n : Need). meets first s n ≡ true) (part_if (not b) (part.Sorted K)) → SortedIf (cond b false true) K s
if_sorted true first K s h = tt
if_sorted false first K s h = begins K s.sort h.0

either : (a b : Bool) → (a || b) ≡ true → (a ≡ true) ⊎ (b ≡ true)
either true b e = inl refl
either false b e = inr e

-- what is met at each input
abbrev Met : Form → List State → ℕ → Type 0
Met f states i = AllByRecursion (λ (n : Need). meets (first_place f states i) (get_or states i (first_state [])) n ≡ true) (needs f (first_place f states i) i)

all_met : (f : Form) (states : List State) → AllByRecursion (λ i. missed f states i ≡ []) (range_with_len 0 (length states)) → (i : ℕ) → i < length states → Met f states i
all_met f states h i l =
    let e : 0 + i ≡ i = omega arith in
    none_missed (meets (first_place f states i) (get_or states i (first_state []))) (needs f (first_place f states i) i) (subst (λ k. missed f states k ≡ []) e (at_range (λ k. missed f states k ≡ []) i 0 (length states) h l))

-- the other inputs of an operator by keys
others : (agree : Bool) (K0 : List Key) (s0 : State) (keys : List (List Key)) (states : List State) → length keys ≡ length states → AllByRecursion KeysDiffer keys →
    ((i : ℕ) → i < length states → AllByRecursion (λ (n : Need). meets (carried_place (pairs_of (cols K0) (cols (get_keys keys i))) s0.place) (get_or states i (first_state [])) n ≡ true) (keyed_needs agree (carried_place (pairs_of (cols K0) (cols (get_keys keys i))) s0.place) (get_keys keys i) 1)) →
    OtherNeeds agree K0 s0 keys states
others agree K0 s0 [] [] e u h = tt
others agree K0 s0 [] (s ∷ states) e u h = absurd (omega arith)
others agree K0 s0 (K ∷ keys) [] e u h = absurd (omega arith)
others agree K0 s0 (K ∷ keys) (s ∷ states) e u h =
    let m = h 0 (omega arith) in
    let a = if_agree agree (carried_place (pairs_of (cols K0) (cols K)) s0.place) K s (part.Sorted K ∷ []) m.1.1 in
    (not_entire s m.0, same_numbers K0 K s.place s0.place u.0 m.1.0, a.0, begins K s.sort a.1.0, others agree K0 s0 keys states (omega arith) u.1 (λ i l. h (suc i) (omega arith)))

keyed : (agree : Bool) (keys : List (List Key)) (states : List State) → 0 < length states → length keys ≡ length states → AllByRecursion KeysDiffer keys →
    ((i : ℕ) → i < length states → AllByRecursion (λ (n : Need). meets (carried_place (pairs_of (cols (get_keys keys 0)) (cols (get_keys keys i))) (first_state states).place) (get_or states i (first_state [])) n ≡ true) (keyed_needs agree (carried_place (pairs_of (cols (get_keys keys 0)) (cols (get_keys keys i))) (first_state states).place) (get_keys keys i) i)) →
    KeyedNeeds agree keys states
keyed agree [] states l e u h = absurd (omega arith)
keyed agree (K ∷ keys) [] l e u h = absurd (omega arith)
keyed agree (K ∷ keys) (s ∷ states) l e u h =
    let m = h 0 (omega arith) in
    let a = if_agree agree (carried_place (pairs_of (cols K) (cols K)) s.place) K s (part.Sorted K ∷ []) m.1.1 in
    (not_entire s m.0, m.1.0, a.0, begins K s.sort a.1.0, others agree K s keys states (omega arith) u.1 (λ i k. h (suc i) (omega arith)))

one_state : (P : State → Type 0) (states : List State) → length states ≡ 1 → ((s : State) → states ≡ s ∷ [] → P s) → OneState P states
one_state P [] l h = absurd (omega arith)
one_state P (s ∷ []) l h = h s refl
one_state P (s ∷ (t ∷ states)) l h = absurd (omega arith)

no_states : (states : List State) → length states ≡ 0 → states ≡ []
no_states [] l = refl
no_states (s ∷ states) l = absurd (omega arith)

some_states : (P : State → Type 0) (states : List State) → 0 < length states → ((i : ℕ) → i < length states → P (get_or states i (first_state []))) → SomeStates P states
some_states P [] l h = absurd (omega arith)
some_states P (s ∷ states) l h = (h 0 (omega arith), go states (λ i k. h (suc i) (omega arith)))
  where
    go : (ss : List State) → ((i : ℕ) → i < length ss → P (get_or ss i (first_state []))) → AllByRecursion P ss
    go [] k = tt
    go (t ∷ ss) k = (k 0 (omega arith), go ss (λ i m. k (suc i) (omega arith)))

two_keys : (left right : List Key) (i : ℕ) → i < 2 → (P : ℕ → List Key → Type 0) → P 0 left → P 1 right → P i (get_keys (left ∷ (right ∷ [])) i)
two_keys left right zero l P a b = a
two_keys left right (suc zero) l P a b = b
two_keys left right (suc (suc i)) l P a b = absurd (omega arith)

-- The needs of an operator that misses nothing are met.
pub needs_met : (o : Op) (states : List State) → FitsPorts o (length states) → KeysDistinct o → AllByRecursion (λ i. missed (form o) states i ≡ []) (range_with_len 0 (length states)) → Needs o states
needs_met (import lines rejects beyond) states p u h = no_states states p
needs_met (dsread segments declared) states p u h = no_states states p
needs_met (by_row rule) [] p u h = absurd (omega arith)
needs_met (by_row rule) (s ∷ []) p u h = not_entire s (all_met (form (by_row rule)) (s ∷ []) h 0 (omega arith)).0
needs_met (by_row rule) (s ∷ (t ∷ states)) p u h = absurd (omega arith)
needs_met (tsort keys) [] p u h = absurd (omega arith)
needs_met (tsort keys) (s ∷ []) p u h = not_entire s (all_met (form (tsort keys)) (s ∷ []) h 0 (omega arith)).0
needs_met (tsort keys) (s ∷ (t ∷ states)) p u h = absurd (omega arith)
needs_met (remdup last keys) [] p u h = absurd (omega arith)
needs_met (remdup last keys) (s ∷ []) p u h = let m = all_met (form (remdup last keys)) (s ∷ []) h 0 (omega arith) in (not_entire s m.0, m.1.0, begins keys s.sort m.1.1.0)
needs_met (remdup last keys) (s ∷ (t ∷ states)) p u h = absurd (omega arith)
needs_met (group g) [] p u h = absurd (omega arith)
needs_met (group g) (s ∷ []) p u h =
    let f = form (group g) in
    let m = all_met f (s ∷ []) h 0 (omega arith) in
    let a = if_agree g.sees_order (first_place f (s ∷ []) 0) g.keys s (part_if (not g.hashes) (part.Sorted g.keys)) m.1.1 in
    (not_entire s m.0, either (placed_in (cols g.keys) s.place) (agrees_in (cols g.keys) s.agree) m.1.0, a.0, if_sorted g.hashes (first_place f (s ∷ []) 0) g.keys s a.1)
needs_met (group g) (s ∷ (t ∷ states)) p u h = absurd (omega arith)
needs_met (join j) [] p u h = absurd (omega arith)
needs_met (join j) (s ∷ []) p u h = absurd (omega arith)
needs_met (join j) (s ∷ (t ∷ [])) p u h = keyed false (j.left_keys ∷ (j.right_keys ∷ [])) (s ∷ (t ∷ [])) (omega arith) refl (u.0, (u.1, tt)) (two (all_met (form (join j)) (s ∷ (t ∷ [])) h))
  where
    K : ℕ → List Key
    K i = get_keys (j.left_keys ∷ (j.right_keys ∷ [])) i

    two : ((i : ℕ) → i < 2 → Met (form (join j)) (s ∷ (t ∷ [])) i) → (i : ℕ) → i < 2 → AllByRecursion (λ (n : Need). meets (carried_place (pairs_of (cols j.left_keys) (cols (get_keys (j.left_keys ∷ (j.right_keys ∷ [])) i))) s.place) (get_or (s ∷ (t ∷ [])) i (first_state [])) n ≡ true) (keyed_needs false (carried_place (pairs_of (cols j.left_keys) (cols (get_keys (j.left_keys ∷ (j.right_keys ∷ [])) i))) s.place) (get_keys (j.left_keys ∷ (j.right_keys ∷ [])) i) i)
    two m zero l = m 0 l
    two m (suc zero) l = m 1 l
    two m (suc (suc i)) l = absurd (omega arith)
needs_met (join j) (s ∷ (t ∷ (v ∷ states))) p u h = absurd (omega arith)
needs_met (merge m) states p u h = keyed true m.keys states p.0 p.1 u (all_met (form (merge m)) states h)
needs_met (lookup k) [] p u h = absurd (omega arith)
needs_met (lookup k) (s ∷ []) p u h = absurd (omega arith)
needs_met (lookup k) (s ∷ (t ∷ [])) p u h =
    let f = form (lookup k) in
    let m = all_met f (s ∷ (t ∷ [])) h in
    let r = both_true (agrees_in (cols k.reference_keys) t.agree) (is_entire t.place || (placed_in (cols k.reference_keys) t.place && same_place t.place (first_place f (s ∷ (t ∷ [])) 1))) (m 1 (omega arith)).0 in
    (not_entire s (m 0 (omega arith)).0, r.0, go (either (is_entire t.place) (placed_in (cols k.reference_keys) t.place && same_place t.place (first_place f (s ∷ (t ∷ [])) 1)) r.1))
  where
    everywhere : (q : Spot) → is_entire q ≡ true → q ≡ spot.Entire
    everywhere spot.Entire e = refl
    everywhere spot.Solo e = cc
    everywhere (spot.Placed x) e = cc
    everywhere spot.None e = cc

    go : ((is_entire t.place ≡ true) ⊎ ((placed_in (cols k.reference_keys) t.place && same_place t.place (first_place (form (lookup k)) (s ∷ (t ∷ [])) 1)) ≡ true)) → ReferenceAt k s t
    go (inl e) = inl (everywhere t.place e)
    go (inr e) =
        let b = both_true (placed_in (cols k.reference_keys) t.place) (same_place t.place (first_place (form (lookup k)) (s ∷ (t ∷ [])) 1)) e in
        inr (b.0, same_numbers k.main_keys k.reference_keys t.place s.place u.1 b.1)
needs_met (lookup k) (s ∷ (t ∷ (v ∷ states))) p u h = absurd (omega arith)
needs_met (changecapture c) [] p u h = absurd (omega arith)
needs_met (changecapture c) (s ∷ []) p u h = absurd (omega arith)
needs_met (changecapture c) (s ∷ (t ∷ [])) p u h = keyed true (c.keys ∷ (c.keys ∷ [])) (s ∷ (t ∷ [])) (omega arith) refl (u, (u, tt)) (two (all_met (form (changecapture c)) (s ∷ (t ∷ [])) h))
  where
    two : ((i : ℕ) → i < 2 → Met (form (changecapture c)) (s ∷ (t ∷ [])) i) → (i : ℕ) → i < 2 → AllByRecursion (λ (n : Need). meets (carried_place (pairs_of (cols c.keys) (cols (get_keys (c.keys ∷ (c.keys ∷ [])) i))) s.place) (get_or (s ∷ (t ∷ [])) i (first_state [])) n ≡ true) (keyed_needs true (carried_place (pairs_of (cols c.keys) (cols (get_keys (c.keys ∷ (c.keys ∷ [])) i))) s.place) (get_keys (c.keys ∷ (c.keys ∷ [])) i) i)
    two m zero l = m 0 l
    two m (suc zero) l = m 1 l
    two m (suc (suc i)) l = absurd (omega arith)
needs_met (changecapture c) (s ∷ (t ∷ (v ∷ states))) p u h = absurd (omega arith)
needs_met funnel states p u h = let m = all_met (form funnel) states h in some_states NotEntire states p (λ i l. not_entire (get_or states i (first_state [])) (m i l).0)
needs_met funnel_sequence states p u h = let m = all_met (form funnel_sequence) states h in some_states NotEntire states p (λ i l. not_entire (get_or states i (first_state [])) (m i l).0)
needs_met (funnel_sort keys) states p u h =
    let m = all_met (form (funnel_sort keys)) states h in
    some_states (λ s. NotEntire s × SortedBy keys s) states p (λ i l. (not_entire (get_or states i (first_state [])) (m i l).0, begins keys (get_or states i (first_state [])).sort (m i l).1.0))

-- So are those of a route.
pub route_met : (r : Route) (s : State) → route_missed r s ≡ [] → RouteNeeds r s
route_met route.Same s e = tt
route_met route.RoundRobin s e = tt
route_met route.Entire s e = tt
route_met (route.Hash K) s e = tt
route_met (route.Modulus c) s e = tt
route_met route.Any s e = tt
route_met route.Ordered s e = tt
route_met (route.Merge keys) s e = begins keys s.sort (none_missed (meets spot.None s) (route_needs (route.Merge keys)) e).0
