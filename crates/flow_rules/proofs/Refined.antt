-- Regain, and both refining rules, keep what a state says.
use Rattle.std.proofs.Common.{Bool, List, None, Option, Some, ap, cond, false, inl, inr, length, lit<, mod-lt, refl, subst, sym, true, ℕ, ◌≡◌, ◌<◌, ◌∷◌, ◌++◌, ◌∙◌, ◌&&◌, []}
use Rattle.std.proofs.lemmas.Map.Lookups.{exact_unsigned}
use Rattle.std.specs.List.{AllByRecursion}
use Rattle.std.specs.Ordering.{nat_cmp}
use Rattle.std.specs.declared.cmp.Ordering.{Ordering}
use Rattle.std.specs.declared.cmp.Ordering.TheVariants.{Equal, Greater, Less}
use Rattle.ds_schema.specs.Rows.{cols}
use Rattle.ds_schema.specs.declared.key.Key.{Key}
use Rattle.ds_value.specs.Values.{number}
use Rattle.ds_value.specs.declared.value.Value.{Value}
use Rattle.flow_graph.specs.Parts.{Agree, Sorted}
use Rattle.ds_place.specs.Places.{hash_number, modulus_number}
use Rattle.flow_graph.specs.Shapes.{SpotFits, Wide}
use Rattle.flow_graph.specs.States.{AgreeIf, Common, Holds, HoldsIn}
use Rattle.ds_place.specs.declared.place.Place.TheVariants.{Hash, Modulus}
use Rattle.flow_graph.specs.declared.state.Spot.{Spot}
use Rattle.flow_graph.specs.declared.state.State.{State}
use Rattle.flow_graph.specs.Columns.{set_of}
use Rattle.flow_derive.specs.Derive.{filled, filled_agree, or_filled, place_columns, refined, regain, regained_if, regained_set, set_if}
use Rattle.op_base.specs.Columns.{IsIn, Lies, Row, lies}
use Rattle.op_base.specs.Lists.{put_at, with_rank}
use Rattle.flow_graph.proofs.PartLaws.{PlacedBy, agree_all, regain_agree}
use Rattle.flow_graph.proofs.PassingColumns.{below}
use Rattle.flow_graph.proofs.StateLaws.{SameSet, holds_same_set, modulus_below, placed_solo}
use Rattle.op_base.proofs.All.{both_true}
use Rattle.op_base.proofs.ColumnLaws.{lies_true}
use Rattle.flow_graph.specs.declared.state.Spot.TheVariants as spot

-- a place with columns C, and a number below the number of partitions
regain_set : (C G : List ℕ) (keys : List Key) (number : List Value → ℕ) (parts : List (List Row)) (whole : List Row) →
    Agree G parts whole → PlacedBy C number parts → Sorted keys parts whole → ((v : List Value) → number v < length parts) → Agree (regained_set (Some C) G keys) parts whole
regain_set C G keys number parts whole h placed up below = go (lies C G && lies G (C ++ cols keys)) refl
  where
    go : (b : Bool) → (lies C G && lies G (C ++ cols keys)) ≡ b → Agree (cond b C G) parts whole
    go true e = regain_agree C G keys number parts whole h placed up below (lies_true G (C ++ cols keys) (both_true (lies C G) (lies G (C ++ cols keys)) e).1)
    go false e = h

regain_common : (C : List ℕ) (number : List Value → ℕ) (state : State) (parts : List (List Row)) (whole : List Row) → PlacedBy C number parts → ((v : List Value) → number v < length parts) → place_columns state.place ≡ Some C → Common state parts whole → Common (regain state) parts whole
regain_common C number state parts whole placed below e h = record { bag = h.bag; agree = go state.agree h.agree; sorted = h.sorted }
  where
    go : (agree : Option (List ℕ)) → AgreeIf agree parts whole → AgreeIf (regained_if agree state.place state.sort) parts whole
    go None a = a
    go (Some G) a = subst (λ cs. Agree (regained_set cs G state.sort) parts whole) (sym e) (regain_set C G state.sort number parts whole a placed h.sorted below)

same_common : (state : State) (place : Spot) (parts : List (List Row)) (whole : List Row) → state.place ≡ place → place_columns place ≡ None → Common state parts whole → Common (regain state) parts whole
same_common state place parts whole e f h = record { bag = h.bag; agree = go state.agree h.agree; sorted = h.sorted }
  where
    go : (agree : Option (List ℕ)) → AgreeIf agree parts whole → AgreeIf (regained_if agree state.place state.sort) parts whole
    go None a = a
    go (Some G) a = subst (λ cs. Agree (regained_set cs G state.sort) parts whole) (sym (ap place_columns e ∙ f)) a

each_common : (state : State) (parts : List (List Row)) (whole : List Row) → state.place ≡ spot.Entire → AllByRecursion (λ rows. Common state (rows ∷ []) whole) parts → AllByRecursion (λ rows. Common (regain state) (rows ∷ []) whole) parts
each_common state [] whole e h = tt
each_common state (xs ∷ parts) whole e h = (same_common state spot.Entire (xs ∷ []) whole e refl h.0, each_common state parts whole e h.1)

pub regain_holds_in : (place : Spot) (state : State) (parts : List (List Row)) (whole : List Row) → state.place ≡ place → 0 < length parts → HoldsIn place state parts whole → HoldsIn place (regain state) parts whole
regain_holds_in spot.Solo state parts whole e l h = (regain_common [] (λ v. 0) state parts whole (placed_solo parts h.1) (λ v. l) (ap place_columns e) h.0, h.1)
regain_holds_in (spot.Placed (Hash K)) state parts whole e l h = (regain_common K (hash_number (length parts)) state parts whole h.1 (λ v. mod-lt _ l) (ap place_columns e) h.0, h.1)
regain_holds_in (spot.Placed (Modulus c)) state parts whole e l h = (regain_common (c ∷ []) (modulus_number (length parts)) state parts whole h.1 (λ v. modulus_below (length parts) v l) (ap place_columns e) h.0, h.1)
regain_holds_in spot.Entire state parts whole e l h = each_common state parts whole e h
regain_holds_in spot.None state parts whole e l h = (same_common state spot.None parts whole e refl h.0, h.1)

pub regain_holds : (state : State) (parts : List (List Row)) (whole : List Row) → 0 < length parts → Holds state parts whole → Holds (regain state) parts whole
regain_holds state parts whole l h = regain_holds_in state.place state parts whole refl l h

common_filled : (width : ℕ) (s : State) (p : Spot) (parts : List (List Row)) (whole : List Row) → s.place ≡ p → AgreeIf (filled_agree width p) parts whole → Common s parts whole → Common (filled width s) parts whole
common_filled width s p parts whole e a h = record { bag = h.bag; agree = go s.agree h.agree; sorted = h.sorted }
  where
    go : (o : Option (List ℕ)) → AgreeIf o parts whole → AgreeIf (or_filled o (filled_agree width s.place)) parts whole
    go None k = subst (λ q. AgreeIf (filled_agree width q) parts whole) (sym e) a
    go (Some G) k = k

filled_holds : (width : ℕ) (p : Spot) (s : State) (parts : List (List Row)) (whole : List Row) → s.place ≡ p → 0 < length parts → AllByRecursion (Wide width) whole → SpotFits width p → HoldsIn p s parts whole → HoldsIn p (filled width s) parts whole
filled_holds width spot.Solo s parts whole e l wide f h = (common_filled width s spot.Solo parts whole e (agree_all width [] (λ v. 0) parts whole h.0.bag (placed_solo parts h.1) (λ v. l) tt wide) h.0, h.1)
filled_holds width (spot.Placed (Hash C)) s parts whole e l wide f h = (common_filled width s (spot.Placed (Hash C)) parts whole e (agree_all width C (hash_number (length parts)) parts whole h.0.bag h.1 (λ v. mod-lt _ l) f wide) h.0, h.1)
filled_holds width (spot.Placed (Modulus c)) s parts whole e l wide f h = (common_filled width s (spot.Placed (Modulus c)) parts whole e (agree_all width (c ∷ []) (modulus_number (length parts)) parts whole h.0.bag h.1 (λ v. modulus_below (length parts) v l) (f, tt) wide) h.0, h.1)
filled_holds width spot.Entire s parts whole e l wide f h = each parts h
  where
    each : (ps : List (List Row)) → AllByRecursion (λ rows. Common s (rows ∷ []) whole) ps → AllByRecursion (λ rows. Common (filled width s) (rows ∷ []) whole) ps
    each [] k = tt
    each (rows ∷ ps) k = (common_filled width s spot.Entire (rows ∷ []) whole e (agree_all width [] (λ v. 0) (rows ∷ []) whole k.0.bag (placed_solo (rows ∷ []) refl) (λ v. Rattle.std.proofs.Common.lit< tt) tt wide) k.0, each ps k.1)
filled_holds width spot.None s parts whole e l wide f h = (common_filled width s spot.None parts whole e tt h.0, h.1)

in_set : (c d : ℕ) (ds : List ℕ) → IsIn c (with_rank nat_cmp d ds) → IsIn c (d ∷ ds)
in_set c d [] i = i
in_set c d (e ∷ ds) i = go (nat_cmp d e) refl i (in_set c d ds)
  where
    go : (o : Ordering) → nat_cmp d e ≡ o → IsIn c (put_at o d e ds (with_rank nat_cmp d ds)) → (IsIn c (with_rank nat_cmp d ds) → IsIn c (d ∷ ds)) → IsIn c (d ∷ (e ∷ ds))
    go Less f j rec = j
    go Equal f (inl j) rec = inl j
    go Equal f (inr j) rec = inr (inr j)
    go Greater f (inl j) rec = inr (inl j)
    go Greater f (inr j) rec = swap (rec j)
      where
        swap : IsIn c (d ∷ ds) → IsIn c (d ∷ (e ∷ ds))
        swap (inl k) = inl k
        swap (inr k) = inr (inr k)

set_has : (c d : ℕ) (ds : List ℕ) → IsIn c (d ∷ ds) → IsIn c (with_rank nat_cmp d ds)
set_has c d [] i = i
set_has c d (e ∷ ds) i = go (nat_cmp d e) refl i (set_has c d ds)
  where
    go : (o : Ordering) → nat_cmp d e ≡ o → IsIn c (d ∷ (e ∷ ds)) → (IsIn c (d ∷ ds) → IsIn c (with_rank nat_cmp d ds)) → IsIn c (put_at o d e ds (with_rank nat_cmp d ds))
    go Less f j rec = j
    go Equal f (inl j) rec = inl j
    go Equal f (inr (inl j)) rec = inl (j ∙ sym (exact_unsigned d e f))
    go Equal f (inr (inr j)) rec = inr j
    go Greater f (inl j) rec = inr (rec (inl j))
    go Greater f (inr (inl j)) rec = inl j
    go Greater f (inr (inr j)) rec = inr (rec (inr j))

-- a set has the columns of its list
pub set_in : (c : ℕ) (cs : List ℕ) → IsIn c (set_of cs) → IsIn c cs
set_in c [] i = i
set_in c (d ∷ cs) i = go (set_in c cs) (in_set c d (set_of cs) i)
  where
    go : (IsIn c (set_of cs) → IsIn c cs) → IsIn c (d ∷ set_of cs) → IsIn c (d ∷ cs)
    go rec (inl e) = inl e
    go rec (inr j) = inr (rec j)

pub in_set_of : (c : ℕ) (cs : List ℕ) → IsIn c cs → IsIn c (set_of cs)
in_set_of c [] i = i
in_set_of c (d ∷ cs) (inl e) = set_has c d (set_of cs) (inl e)
in_set_of c (d ∷ cs) (inr i) = set_has c d (set_of cs) (inr (in_set_of c cs i))

all_set_in : (cs ds : List ℕ) → ((c : ℕ) → IsIn c cs → IsIn c ds) → Lies cs ds
all_set_in [] ds h = tt
all_set_in (c ∷ cs) ds h = (h c (inl refl), all_set_in cs ds (λ d i. h d (inr i)))

set_same : (agree : Option (List ℕ)) → SameSet agree (set_if agree)
set_same None = tt
set_same (Some G) = (all_set_in G (set_of G) (λ c i. in_set_of c G i), all_set_in (set_of G) G (λ c i. set_in c G i))

-- Both refining rules.
pub refined_holds : (regains : Bool) (width : ℕ) (s : State) (parts : List (List Row)) (whole : List Row) → 0 < length parts → AllByRecursion (Wide width) whole → SpotFits width s.place → Holds s parts whole → Holds (refined regains width s) parts whole
refined_holds true width s parts whole l wide f h =
    let r = regain (filled width s) in
    holds_same_set r.agree (set_if r.agree) r.place r.sort parts whole (set_same r.agree) (regain_holds (filled width s) parts whole l (filled_holds width s.place s parts whole refl l wide f h))
refined_holds false width s parts whole l wide f h =
    let r = filled width s in
    holds_same_set r.agree (set_if r.agree) r.place r.sort parts whole (set_same r.agree) (filled_holds width s.place s parts whole refl l wide f h)
