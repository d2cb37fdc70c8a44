-- Columns that pass, and places by the numbers of keys.
use Rattle.std.proofs.Common.{Bool, List, None, Option, Some, ap, ap₂, arith, cond, false, filter, get_or, length, map, mod-lt, refl, subst, suc, sym, true, zero, ℕ, ◌≡◌, ◌+◌, ◌<◌, ◌∷◌, ◌∙◌, ◌==◌, []}
use Rattle.std.proofs.lemmas.Bool.Decides.{nat_tests}
use Rattle.std.specs.List.{AllByRecursion, range_with_len}
use Rattle.ds_schema.specs.Rows.{at, cols, val}
use Rattle.ds_schema.specs.declared.key.Key.{Key}
use Rattle.ds_value.specs.declared.value.Value.{Value}
use Rattle.flow_graph.specs.Parts.{PlacedFrom}
use Rattle.ds_place.specs.Places.{hash_number, modulus_number}
use Rattle.flow_graph.specs.Shapes.{Carries}
use Rattle.flow_graph.specs.States.{LiesAt}
use Rattle.ds_place.specs.declared.place.Place.TheVariants.{Hash, Modulus}
use Rattle.flow_graph.specs.declared.state.Spot.{Spot}
use Rattle.flow_derive.specs.Derive.{carried, carried_place, first_keys, hashed_if, modulus_if, with_column}
use Rattle.op_base.specs.Columns.{Pairs, Row, column_in, pairs_of}
use Rattle.flow_graph.proofs.Holders.{none_here}
use Rattle.flow_graph.proofs.StateLaws.{modulus_below, placed_solo}
use Rattle.flow_rules.proofs.NeedTypes.{key_place}
use Rattle.flow_graph.specs.declared.state.Spot.TheVariants as spot

pub column_val : (m : Pairs) (r y : Row) (c d : ℕ) → column_in m c ≡ Some d → Carries m r y → at y d ≡ at r c
column_val [] r y c d e h = cc
column_val (p ∷ m) r y c d e h = go (λ g. column_val m r y c d g h.1) (p.0 == c) refl e
  where
    go : (column_in m c ≡ Some d → at y d ≡ at r c) → (b : Bool) → (p.0 == c) ≡ b → cond b (Some (p.1)) (column_in m c) ≡ Some d → at y d ≡ at r c
    go rec true f g =
        let same : p.0 ≡ c = grind (arith, nat_tests) in
        let there : p.1 ≡ d = cc in
        ap (at y) (sym there) ∙ h.0 ∙ ap (at r) same
    go rec false f g = rec g

pub carried_val : (m : Pairs) (r y : Row) (C D : List ℕ) → carried m C ≡ Some D → Carries m r y → val D y ≡ val C r
carried_val m r y [] D e h = let f : [] ≡ D = cc in ap (λ X. val X y) (sym f)
carried_val m r y (c ∷ C) D e h = go (λ ds g. carried_val m r y C ds g h) (column_in m c) refl (carried m C) refl e
  where
    go : ((ds : List ℕ) → carried m C ≡ Some ds → val ds y ≡ val C r) → (a : Option ℕ) → column_in m c ≡ a → (b : Option (List ℕ)) → carried m C ≡ b → with_column a b ≡ Some D → val D y ≡ val (c ∷ C) r
    go rec None f b g k = cc
    go rec (Some d) f None g k = cc
    go rec (Some d) f (Some ds) g k =
        let shape : d ∷ ds ≡ D = cc in
        ap (λ X. val X y) (sym shape) ∙ ap₂ (λ a b. a ∷ b) (column_val m r y c d f h) (rec ds g)

at_from : (n i : ℕ) (w : Row) → at w (suc n + i) ≡ at w (n + suc i)
at_from n i w = ap (at w) (omega arith)

-- by the numbers of keys, from n on
carries_keys : (keys : List Key) (n : ℕ) (r w : Row) → ((i : ℕ) → at w (n + i) ≡ at (val (cols keys) r) i) → Carries (pairs_of (cols keys) (cols (first_keys n keys))) r w
carries_keys [] n r w h = tt
carries_keys (k ∷ keys) n r w h =
    let none : n ≡ n + 0 = omega arith in
    (ap (at w) none ∙ h 0, carries_keys keys (suc n) r w (λ i. at_from n i w ∙ h (suc i)))

pub carries_key : (keys : List Key) (r : Row) → Carries (pairs_of (cols keys) (cols (first_keys 0 keys))) r (val (cols keys) r)
carries_key keys r = carries_keys keys 0 r (val (cols keys) r) (λ i. ap (at (val (cols keys) r)) (omega arith))

-- a column of an output with the keys H, and its number among the keys
column_number : (keys : List Key) (H : List ℕ) (n : ℕ) (y w : Row) (c d k : ℕ) → column_in (pairs_of (cols keys) H) c ≡ Some d → column_in (pairs_of (cols keys) (cols (first_keys n keys))) c ≡ Some k → ((i : ℕ) → at w (n + i) ≡ at (val H y) i) → at y d ≡ at w k
column_number [] H n y w c d k e f h = cc
column_number (x ∷ keys) [] n y w c d k e f h = cc
column_number (x ∷ keys) (z ∷ H) n y w c d k e f h = go (λ g i. column_number keys H (suc n) y w c d k g i (λ j. at_from n j w ∙ h (suc j))) (x.col == c) e f
  where
    go : (column_in (pairs_of (cols keys) H) c ≡ Some d → column_in (pairs_of (cols keys) (cols (first_keys (suc n) keys))) c ≡ Some k → at y d ≡ at w k) → (b : Bool) → cond b (Some z) (column_in (pairs_of (cols keys) H) c) ≡ Some d → cond b (Some n) (column_in (pairs_of (cols keys) (cols (first_keys (suc n) keys))) c) ≡ Some k → at y d ≡ at w k
    go rec true g i =
        let a : z ≡ d = cc in
        let b : n ≡ k = cc in
        let none : n ≡ n + 0 = omega arith in
        ap (at y) (sym a) ∙ sym (h 0) ∙ ap (at w) (sym none) ∙ ap (at w) b
    go rec false g i = rec g i

carried_number : (keys : List Key) (H : List ℕ) (y : Row) (C D P : List ℕ) → carried (pairs_of (cols keys) H) C ≡ Some D → carried (pairs_of (cols keys) (cols (first_keys 0 keys))) C ≡ Some P → val D y ≡ val P (val H y)
carried_number keys H y [] D P e f = let a : [] ≡ D = cc in let b : [] ≡ P = cc in sym (ap (λ X. val X y) a) ∙ ap (λ X. val X (val H y)) b
carried_number keys H y (c ∷ C) D P e f = go (λ ds ns h k. carried_number keys H y C ds ns h k) (column_in (pairs_of (cols keys) H) c) refl (carried (pairs_of (cols keys) H) C) refl e (column_in (pairs_of (cols keys) (cols (first_keys 0 keys))) c) refl (carried (pairs_of (cols keys) (cols (first_keys 0 keys))) C) refl f
  where
    go : ((ds ns : List ℕ) → carried (pairs_of (cols keys) H) C ≡ Some ds → carried (pairs_of (cols keys) (cols (first_keys 0 keys))) C ≡ Some ns → val ds y ≡ val ns (val H y)) →
        (a : Option ℕ) → column_in (pairs_of (cols keys) H) c ≡ a → (b : Option (List ℕ)) → carried (pairs_of (cols keys) H) C ≡ b → with_column a b ≡ Some D →
        (s : Option ℕ) → column_in (pairs_of (cols keys) (cols (first_keys 0 keys))) c ≡ s → (t : Option (List ℕ)) → carried (pairs_of (cols keys) (cols (first_keys 0 keys))) C ≡ t → with_column s t ≡ Some P → val D y ≡ val P (val H y)
    go rec None g b h i s j t k l = cc
    go rec (Some d) g None h i s j t k l = cc
    go rec (Some d) g (Some ds) h i None j t k l = cc
    go rec (Some d) g (Some ds) h i (Some n) j None k l = cc
    go rec (Some d) g (Some ds) h i (Some n) j (Some ns) k l =
        let a : d ∷ ds ≡ D = cc in
        let b : n ∷ ns ≡ P = cc in
        ap (λ X. val X y) (sym a)
        ∙ ap₂ (λ x z. x ∷ z) (column_number keys H 0 y (val H y) c d n g j (λ q. ap (at (val H y)) (omega arith))) (rec ds ns h k)
        ∙ ap (λ X. val X (val H y)) b

abbrev pub IsKnown : Spot → Type 0
IsKnown spot.Solo = Unit {0}
IsKnown (spot.Placed (Hash C)) = Unit {0}
IsKnown (spot.Placed (Modulus c)) = Unit {0}
IsKnown spot.Entire = ⊥
IsKnown spot.None = ⊥

-- the partition of a value by a place
abbrev pub num : Spot → ℕ → List Value → ℕ
num spot.Solo n v = 0
num (spot.Placed (Hash P)) n v = hash_number n (val P v)
num (spot.Placed (Modulus k)) n v = modulus_number n (val (k ∷ []) v)
num spot.Entire n v = 0
num spot.None n v = 0

pub num_below : (p : Spot) (n : ℕ) (v : List Value) → 0 < n → num p n v < n
num_below spot.Solo n v l = l
num_below (spot.Placed (Hash P)) n v l = mod-lt _ l
num_below (spot.Placed (Modulus k)) n v l = modulus_below n (val (k ∷ []) v) l
num_below spot.Entire n v l = l
num_below spot.None n v l = l

pub placed_alike : {X : Type 0} (d e : X → ℕ) → ((x : X) → d x ≡ e x) → (n : ℕ) (parts : List (List X)) → PlacedFrom d n parts → PlacedFrom e n parts
placed_alike d e h n [] k = tt
placed_alike {X} d e h n (xs ∷ parts) k = (go xs k.0, placed_alike d e h (suc n) parts k.1)
  where
    go : (ys : List X) → AllByRecursion (λ (x : X). d x ≡ n) ys → AllByRecursion (λ (x : X). e x ≡ n) ys
    go [] a = tt
    go (y ∷ ys) a = (sym (h y) ∙ a.0, go ys a.1)

-- rows lie by the values of their keys
pub placed_by_key : (keys : List Key) (place : Spot) (n : ℕ) (parts : List (List Row)) → IsKnown (key_place keys place) → length parts ≡ n → LiesAt place parts → PlacedFrom (λ r. num (key_place keys place) n (val (cols keys) r)) 0 parts
placed_by_key keys spot.Solo n parts k e l = placed_solo parts l
placed_by_key keys (spot.Placed (Hash C)) n parts k e l = go (carried m C) refl k
  where
    m : Pairs
    m = pairs_of (cols keys) (cols (first_keys 0 keys))

    go : (a : Option (List ℕ)) → carried m C ≡ a → IsKnown (hashed_if a) → PlacedFrom (λ r. num (hashed_if a) n (val (cols keys) r)) 0 parts
    go None f g = absurd g
    go (Some P) f g =
        placed_alike (λ r. hash_number (length parts) (val C r)) (λ r. hash_number n (val P (val (cols keys) r)))
        (λ r. ap₂ hash_number e (sym (carried_val m r (val (cols keys) r) C P f (carries_key keys r)))) 0 parts l
placed_by_key keys (spot.Placed (Modulus c)) n parts k e l = go (column_in m c) refl k
  where
    m : Pairs
    m = pairs_of (cols keys) (cols (first_keys 0 keys))

    go : (a : Option ℕ) → column_in m c ≡ a → IsKnown (modulus_if a) → PlacedFrom (λ r. num (modulus_if a) n (val (cols keys) r)) 0 parts
    go None f g = absurd g
    go (Some d) f g =
        placed_alike (λ r. modulus_number (length parts) (val (c ∷ []) r)) (λ r. modulus_number n (val (d ∷ []) (val (cols keys) r)))
        (λ r. ap₂ modulus_number e (ap (λ x. x ∷ []) (sym (column_val m r (val (cols keys) r) c d f (carries_key keys r))))) 0 parts l
placed_by_key keys spot.Entire n parts k e l = absurd k
placed_by_key keys spot.None n parts k e l = absurd k

-- and an output's rows, by the values of its keys, lie at the place as it is carried over
pub lies_by_key : (keys : List Key) (H : List ℕ) (place : Spot) (n : ℕ) (outs : List (List Row)) → IsKnown (key_place keys place) → length outs ≡ n → (place ≡ spot.Solo → n ≡ 1) → PlacedFrom (λ y. num (key_place keys place) n (val H y)) 0 outs → LiesAt (carried_place (pairs_of (cols keys) H) place) outs
lies_by_key keys H spot.Solo n outs k e one l = e ∙ one refl
lies_by_key keys H (spot.Placed (Hash C)) n outs k e one l = go (carried (pairs_of (cols keys) H) C) refl (carried m C) refl k l
  where
    m : Pairs
    m = pairs_of (cols keys) (cols (first_keys 0 keys))

    go : (a : Option (List ℕ)) → carried (pairs_of (cols keys) H) C ≡ a → (b : Option (List ℕ)) → carried m C ≡ b → IsKnown (hashed_if b) → PlacedFrom (λ y. num (hashed_if b) n (val H y)) 0 outs → LiesAt (hashed_if a) outs
    go None f b g i j = tt
    go (Some D) f None g i j = absurd i
    go (Some D) f (Some P) g i j =
        placed_alike (λ y. hash_number n (val P (val H y))) (λ y. hash_number (length outs) (val D y)) (λ y. ap₂ hash_number (sym e) (sym (carried_number keys H y C D P f g))) 0 outs j
lies_by_key keys H (spot.Placed (Modulus c)) n outs k e one l = go (column_in (pairs_of (cols keys) H) c) refl (column_in m c) refl k l
  where
    m : Pairs
    m = pairs_of (cols keys) (cols (first_keys 0 keys))

    go : (a : Option ℕ) → column_in (pairs_of (cols keys) H) c ≡ a → (b : Option ℕ) → column_in m c ≡ b → IsKnown (modulus_if b) → PlacedFrom (λ y. num (modulus_if b) n (val H y)) 0 outs → LiesAt (modulus_if a) outs
    go None f b g i j = tt
    go (Some d) f None g i j = absurd i
    go (Some d) f (Some p) g i j =
        placed_alike (λ y. modulus_number n (val (p ∷ []) (val H y))) (λ y. modulus_number (length outs) (val (d ∷ []) y))
        (λ y. ap₂ modulus_number (sym e) (ap (λ x. x ∷ []) (sym (column_number keys H 0 y (val H y) c d p f g (λ q. ap (at (val H y)) (omega arith)))))) 0 outs j
lies_by_key keys H spot.Entire n outs k e one l = absurd k
lies_by_key keys H spot.None n outs k e one l = absurd k

-- partitions by number
pub part_at : {X : Type 0} (d : X → ℕ) (n i : ℕ) (parts : List (List X)) → PlacedFrom d n parts → AllByRecursion (λ x. d x ≡ n + i) (get_or parts i [])
part_at d n i [] h = tt
part_at {X} d n zero (xs ∷ parts) h = let e : n ≡ n + 0 = omega arith in subst (λ k. AllByRecursion (λ (x : X). d x ≡ k) xs) e h.0
part_at {X} d n (suc i) (xs ∷ parts) h = let e : suc n + i ≡ n + suc i = omega arith in subst (λ k. AllByRecursion (λ (x : X). d x ≡ k) (get_or parts i [])) e (part_at d (suc n) i parts h.1)

pub part_none : {X : Type 0} (d : X → ℕ) (p : X → Bool) (j : ℕ) → ((x : X) → p x ≡ true → d x ≡ j) → (i : ℕ) (parts : List (List X)) → (i ≡ j → ⊥) → PlacedFrom d 0 parts → filter p (get_or parts i []) ≡ []
part_none {X} d p j to i parts e h = none_here d p j i to e (get_or parts i []) (let f : 0 + i ≡ i = omega arith in subst (λ k. AllByRecursion (λ (x : X). d x ≡ k) (get_or parts i [])) f (part_at d 0 i parts h))

pub placed_range : {X : Type 0} (d : X → ℕ) (f : ℕ → List X) → ((p : ℕ) → AllByRecursion (λ x. d x ≡ p) (f p)) → (n k : ℕ) → PlacedFrom d n (map f (range_with_len n k))
placed_range d f h n zero = tt
placed_range d f h n (suc k) = (h n, let e : suc n ≡ n + 1 = omega arith in subst (λ m. PlacedFrom d m (map f (range_with_len (n + 1) k))) (sym e) (placed_range d f h (n + 1) k))
