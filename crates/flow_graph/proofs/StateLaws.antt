-- What a state says, of partitions that are each changed alone.
use Rattle.std.proofs.Common.{List, None, Option, Some, add-one, ap, ap₂, arith, get_or, length, map, mod-lt, refl, subst, suc, sym, zero, ℕ, ◌≡◌, ◌≢◌, ◌+◌, ◌<◌, ◌∷◌, ◌++◌, ◌∙◌, [], ◌%◌}
use Rattle.std.proofs.lemmas.List.{length-map}
use Rattle.std.specs.Int.{int_rem_euclid}
use Rattle.std.specs.Prelude.{ℤ, pos, negsuc, unsigned_abs}
use Rattle.ds_value.specs.Values.{number}
use Rattle.std.specs.List.{AllByRecursion, range_with_len}
use Rattle.std.specs.declared.cmp.Ordering.{Ordering}
use Rattle.ds_schema.specs.Rows.{at, val}
use Rattle.ds_schema.specs.declared.key.Key.{Key}
use Rattle.ds_value.specs.declared.value.Value.{Value}
use Rattle.flow_graph.specs.Parts.{PlacedFrom}
use Rattle.ds_place.specs.Places.{hash_number, modulus_number}
use Rattle.flow_graph.specs.States.{AgreeIf, Common, Holds, HoldsIn, LiesAt}
use Rattle.ds_place.specs.declared.place.Place.TheVariants.{Hash, Modulus}
use Rattle.flow_graph.specs.declared.state.Spot.{Spot}
use Rattle.flow_graph.specs.declared.state.State.{State}
use Rattle.op_base.specs.Columns.{Lies, Row}
use Rattle.op_base.specs.Keyed.{arranged, without}
use Rattle.op_base.specs.Lists.{IsArranged}
use Rattle.flow_graph.proofs.PartLaws.{PlacedBy, agree_same, sort_agree, sort_bag}
use Rattle.op_base.proofs.KeySorts.{sort_sorted}
use Rattle.flow_graph.specs.declared.state.Spot.TheVariants as spot

pub holds_plain : (p : Spot) (s : State) (parts : List (List Row)) (whole : List Row) → p ≢ spot.Entire → HoldsIn p s parts whole → Common s parts whole × LiesAt p parts
holds_plain spot.Solo s parts whole e h = h
holds_plain (spot.Placed (Hash K)) s parts whole e h = h
holds_plain (spot.Placed (Modulus c)) s parts whole e h = h
holds_plain spot.Entire s parts whole e h = absurd (e refl)
holds_plain spot.None s parts whole e h = h

pub plain_holds : (p : Spot) (s : State) (parts : List (List Row)) (whole : List Row) → p ≢ spot.Entire → Common s parts whole → LiesAt p parts → HoldsIn p s parts whole
plain_holds spot.Solo s parts whole e h k = (h, k)
plain_holds (spot.Placed (Hash K)) s parts whole e h k = (h, k)
plain_holds (spot.Placed (Modulus c)) s parts whole e h k = (h, k)
plain_holds spot.Entire s parts whole e h k = absurd (e refl)
plain_holds spot.None s parts whole e h k = (h, k)

-- one input: each partition alone
pub map_shift : {Y : Type 0} (g : ℕ → Y) (a n : ℕ) → map g (range_with_len (a + 1) n) ≡ map (λ p. g (suc p)) (range_with_len a n)
map_shift g a zero = refl
map_shift g a (suc n) = ap₂ (λ x y. x ∷ y) (ap g (add-one a)) (map_shift g (a + 1) n)

pub each_part : {Y : Type 0} (f : List Row → Y) (parts : List (List Row)) → map (λ p. f (get_or parts p [])) (range_with_len 0 (length parts)) ≡ map f parts
each_part f [] = refl
each_part f (rows ∷ parts) = ap (λ ys. f rows ∷ ys) (map_shift (λ p. f (get_or (rows ∷ parts) p [])) 0 (length parts) ∙ each_part f parts)

-- what each partition does alone keeps places and orders
pub placed_map : {X : Type 0} (d : X → ℕ) (f : List X → List X) → ((P : X → Type 0) (xs : List X) → AllByRecursion P xs → AllByRecursion P (f xs)) → (n : ℕ) (parts : List (List X)) → PlacedFrom d n parts → PlacedFrom d n (map f parts)
placed_map d f k n [] h = tt
placed_map {X} d f k n (xs ∷ parts) h = (k (λ (x : X). d x ≡ n) xs h.0, placed_map d f k (suc n) parts h.1)

pub lies_map : (p : Spot) (f : List Row → List Row) → ((P : Row → Type 0) (xs : List Row) → AllByRecursion P xs → AllByRecursion P (f xs)) → (parts : List (List Row)) → LiesAt p parts → LiesAt p (map f parts)
lies_map spot.Solo f k parts h = length-map parts f ∙ h
lies_map (spot.Placed (Hash K)) f k parts h = subst (λ n. PlacedBy K (hash_number n) (map f parts)) (sym (length-map parts f)) (placed_map (λ r. hash_number (length parts) (val K r)) f k 0 parts h)
lies_map (spot.Placed (Modulus c)) f k parts h = subst (λ n. PlacedBy (c ∷ []) (modulus_number n) (map f parts)) (sym (length-map parts f)) (placed_map (λ r. modulus_number (length parts) (val (c ∷ []) r)) f k 0 parts h)
lies_map spot.Entire f k parts h = tt
lies_map spot.None f k parts h = tt

pub each_sorted : (R S : Row → Row → Ordering) (f : List Row → List Row) → ((xs : List Row) → IsArranged R xs → IsArranged S (f xs)) → (parts : List (List Row)) → AllByRecursion (IsArranged R) parts → AllByRecursion (IsArranged S) (map f parts)
each_sorted R S f k [] h = tt
each_sorted R S f k (xs ∷ parts) h = (k xs h.0, each_sorted R S f k parts h.1)

pub sort_agree_if : (keys : List Key) (agree : Option (List ℕ)) (parts : List (List Row)) (whole : List Row) → AgreeIf agree parts whole → AgreeIf agree (map (arranged keys) parts) (arranged keys whole)
sort_agree_if keys None parts whole h = tt
sort_agree_if keys (Some G) parts whole h = sort_agree G keys parts whole h

pub sort_common : (keys : List Key) (s : State) (parts : List (List Row)) (whole : List Row) → Common s parts whole → Common (record { agree = s.agree; place = s.place; sort = keys ++ without keys s.sort }) (map (arranged keys) parts) (arranged keys whole)
sort_common keys s parts whole h = record {
  bag = sort_bag keys parts whole h.bag;
  agree = sort_agree_if keys s.agree parts whole h.agree;
  sorted = (each_sorted _ _ (arranged keys) (λ xs k. sort_sorted keys s.sort xs k) parts h.sorted.0, sort_sorted keys s.sort whole h.sorted.1);
}

pub placed_solo : (parts : List (List Row)) → length parts ≡ 1 → PlacedBy [] (λ v. 0) parts
placed_solo [] e = tt
placed_solo (xs ∷ []) e = (all xs, tt)
  where
    all : (ys : List Row) → AllByRecursion (λ r. ◌≡◌ {A = ℕ} 0 0) ys
    all [] = tt
    all (y ∷ ys) = (refl, all ys)
placed_solo (xs ∷ (ys ∷ parts)) e = absurd (omega arith)

remainder_below : (n : ℕ) (z : ℤ) → 0 < n → unsigned_abs (int_rem_euclid z (pos n)) < n
remainder_below n (pos a) l = mod-lt a l
remainder_below n (negsuc a) l = let h : a % n < n = mod-lt a l in omega arith

pub modulus_below : (n : ℕ) (v : List Value) → 0 < n → modulus_number n v < n
modulus_below n v l = remainder_below n (number (at v 0)) l

abbrev pub SameSet : Option (List ℕ) → Option (List ℕ) → Type 0
SameSet None None = Unit {0}
SameSet None (Some H) = ⊥
SameSet (Some G) None = ⊥
SameSet (Some G) (Some H) = Lies G H × Lies H G

same_if : (a b : Option (List ℕ)) (parts : List (List Row)) (whole : List Row) → SameSet a b → AgreeIf a parts whole → AgreeIf b parts whole
same_if None None parts whole e h = h
same_if None (Some H) parts whole e h = absurd e
same_if (Some G) None parts whole e h = absurd e
same_if (Some G) (Some H) parts whole e h = agree_same G H parts whole e.0 e.1 h

common_same : (a b : Option (List ℕ)) (p : Spot) (sort : List Key) (parts : List (List Row)) (whole : List Row) → SameSet a b → Common (record { agree = a; place = p; sort = sort }) parts whole → Common (record { agree = b; place = p; sort = sort }) parts whole
common_same a b p sort parts whole e h = record { bag = h.bag; agree = same_if a b parts whole e h.agree; sorted = h.sorted }

pub holds_same_set : (a b : Option (List ℕ)) (p : Spot) (sort : List Key) (parts : List (List Row)) (whole : List Row) → SameSet a b → Holds (record { agree = a; place = p; sort = sort }) parts whole → Holds (record { agree = b; place = p; sort = sort }) parts whole
holds_same_set a b spot.Solo sort parts whole e h = (common_same a b spot.Solo sort parts whole e h.0, h.1)
holds_same_set a b (spot.Placed (Hash C)) sort parts whole e h = (common_same a b (spot.Placed (Hash C)) sort parts whole e h.0, h.1)
holds_same_set a b (spot.Placed (Modulus c)) sort parts whole e h = (common_same a b (spot.Placed (Modulus c)) sort parts whole e h.0, h.1)
holds_same_set a b spot.None sort parts whole e h = (common_same a b spot.None sort parts whole e h.0, h.1)
holds_same_set a b spot.Entire sort parts whole e h = each parts h
  where
    each : (ps : List (List Row)) → AllByRecursion (λ rows. Common (record { agree = a; place = spot.Entire; sort = sort }) (rows ∷ []) whole) ps → AllByRecursion (λ rows. Common (record { agree = b; place = spot.Entire; sort = sort }) (rows ∷ []) whole) ps
    each [] k = tt
    each (rows ∷ ps) k = (common_same a b spot.Entire sort (rows ∷ []) whole e k.0, each ps k.1)
