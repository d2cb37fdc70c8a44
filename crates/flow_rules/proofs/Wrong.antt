-- Rules that don't hold, refuted by examples.
use Rattle.std.proofs.Common.{◌≡◌, ℕ, ◌%◌, ◌<◌, ◌==◌, Bool, true, false, cond, inl, inr, List, [], ◌∷◌, refl, sym, ap₂, ◌∙◌, subst, arith, lit<, Some, mod-lt}
use Rattle.std.specs.Prelude.{pos}
use Rattle.std.proofs.lemmas.Bool.Decides.{nat_tests}
use Rattle.std.proofs.lemmas.List.Sorted.{IsPermutation-append_comm, IsPermutation-refl}
use Rattle.ds_value.specs.declared.value.Value.{Value}
use Rattle.ds_value.specs.declared.value.Value.TheVariants.{Int}
use Rattle.ds_schema.specs.declared.key.Key.{Key}
use Rattle.ds_schema.specs.Rows.{has, val}
use Rattle.op_base.specs.Columns.{Row}
use Rattle.op_base.specs.Lists.{OneHolds, Interleaves}
use Rattle.op_base.specs.Meanings.{Join}
use Rattle.ds_place.specs.declared.place.Place.TheVariants as place
use Rattle.flow_graph.specs.declared.route.Route.TheVariants as route
use Rattle.flow_graph.specs.declared.state.State.{State}
use Rattle.flow_graph.specs.declared.state.Spot.TheVariants as spot
use Rattle.flow_graph.specs.Destinations.{lanes_to}
use Rattle.flow_graph.specs.Operators.{join, result}
use Rattle.flow_graph.specs.Parts.{Agree}
use Rattle.ds_place.specs.Places.{place_number}
use Rattle.flow_graph.specs.Runs.{Arrives}
use Rattle.flow_graph.specs.States.{Holds}
use Rattle.flow_rules.specs.WrongRules.{RemdupWhereColocated, RepartitionAgreesAlone, AnyKeepsSort, JoinsLieApart, RegainWithoutSort}
use Rattle.op_base.proofs.Bags.{count-permutation, permuted_long}
use Rattle.op_base.proofs.Orders.{has_val}

abbrev one : Row
one = Int (pos 0) ∷ (Int (pos 1) ∷ [])

abbrev two : Row
two = Int (pos 0) ∷ (Int (pos 2) ∷ [])

abbrev by : ℕ → List Key
by c = record { col = c; desc = false } ∷ []

abbrev turned : List (List Row)
turned = (two ∷ (one ∷ [])) ∷ []

abbrev split : List (List Row)
split = (one ∷ []) ∷ ((two ∷ []) ∷ [])

abbrev both : List Row
both = one ∷ (two ∷ [])

-- no value of some columns is that of both rows, where these columns tell them apart
apart : (G : List ℕ) → (val G one ≡ val G two → ⊥) → (v : List Value) → has G v one ≡ true → has G v two ≡ true → ⊥
apart G d v e f = d (has_val G v one e ∙ sym (has_val G v two f))

turned_agree : (G : List ℕ) → (val G one ≡ val G two → ⊥) → Agree G turned both
turned_agree G d v = go (has G v one) refl (has G v two) refl
  where
    go : (a : Bool) → has G v one ≡ a → (b : Bool) → has G v two ≡ b → OneHolds (cond b (two ∷ cond a (one ∷ []) []) (cond a (one ∷ []) []) ∷ []) (cond a (one ∷ cond b (two ∷ []) []) (cond b (two ∷ []) []))
    go true e true f = absurd (apart G d v e f)
    go true e false f = inl (refl, tt)
    go false e true f = inl (refl, tt)
    go false e false f = inl (refl, tt)

split_agree : Agree (1 ∷ []) split both
split_agree v = go (has (1 ∷ []) v one) refl (has (1 ∷ []) v two) refl
  where
    go : (a : Bool) → has (1 ∷ []) v one ≡ a → (b : Bool) → has (1 ∷ []) v two ≡ b → OneHolds (cond a (one ∷ []) [] ∷ (cond b (two ∷ []) [] ∷ [])) (cond a (one ∷ cond b (two ∷ []) []) (cond b (two ∷ []) []))
    go true e true f = absurd (apart (1 ∷ []) (λ g. cc) v e f)
    go true e false f = inl (refl, (refl, tt))
    go false e true f = inr (refl, inl (refl, tt))
    go false e false f = inl (refl, (refl, tt))

-- rows that only lie together: another first row
pub not_remdup_where_colocated : RemdupWhereColocated → ⊥
not_remdup_where_colocated rule =
    let s : State = record { agree = Some (0 ∷ (1 ∷ [])); place = spot.Solo; sort = by 0 } in
    let holds : Holds s turned both = (record { bag = IsPermutation-append_comm (two ∷ []) (one ∷ []); agree = turned_agree (0 ∷ (1 ∷ [])) (λ g. cc); sorted = ((((refl, tt), (tt, tt)), tt), ((refl, tt), (tt, tt))) }, refl) in
    let h = rule false (by 0) s turned both refl refl refl holds in
    let c : 0 ≡ 1 = count-permutation (has (1 ∷ []) (Int (pos 1) ∷ [])) (two ∷ []) (one ∷ []) h.0.bag in
    absurd (omega (arith, c))

one_part : (n : ℕ) → (n % 1 == 0) ≡ true
one_part n = let l : n % 1 < 1 = mod-lt n (lit< tt) in grind (arith, nat_tests)

-- rows of one key of the repartition, from two partitions, in another order
pub not_repartition_agrees_alone : RepartitionAgreesAlone → ⊥
not_repartition_agrees_alone rule = go (h.0.agree (Int (pos 0) ∷ []))
  where
    s : State
    s = record { agree = Some (1 ∷ []); place = spot.None; sort = [] }

    all : (r : Row) → (place_number (place.Hash (0 ∷ [])) r 1 == 0) ≡ true
    all r = one_part _

    lanes : lanes_to (λ p t r. place_number (place.Hash (0 ∷ [])) r 1) 0 0 split ≡ split
    lanes = ap₂ (λ a b. cond a (one ∷ []) [] ∷ (cond b (two ∷ []) [] ∷ [])) (all one) (all two)

    arrives : Arrives false (route.Hash (0 ∷ [])) split turned
    arrives = (subst (λ ls. Interleaves ls (two ∷ (one ∷ []))) (sym lanes) (1, [], lit< tt, refl, (0, [], lit< tt, refl, (refl, (refl, tt)))), tt)

    holds : Holds (record { agree = Some (1 ∷ []); place = spot.None; sort = [] }) split both
    holds = (record { bag = IsPermutation-refl both; agree = split_agree; sorted = (((tt, tt), ((tt, tt), tt)), ((refl, tt), (tt, tt))) }, tt)

    h : Holds (record { agree = Some (0 ∷ []); place = spot.Placed (place.Hash (0 ∷ [])); sort = [] }) turned both
    h = rule (1 ∷ []) (0 ∷ []) (record { agree = Some (1 ∷ []); place = spot.None; sort = [] }) split turned both refl (λ e. cc) (lit< tt) holds arrives

    go : OneHolds ((two ∷ (one ∷ [])) ∷ []) (one ∷ (two ∷ [])) → ⊥
    go (inl k) = let e = k.0 in cc
    go (inr k) = k.1

-- the later partition first
pub not_any_keeps_sort : AnyKeepsSort → ⊥
not_any_keeps_sort rule =
    let s : State = record { agree = Some (1 ∷ []); place = spot.None; sort = by 1 } in
    let holds : Holds s split both = (record { bag = IsPermutation-refl both; agree = split_agree; sorted = (((tt, tt), ((tt, tt), tt)), ((refl, tt), (tt, tt))) }, tt) in
    let h = rule s split turned both (λ e. cc) (lit< tt) holds (two ∷ (one ∷ []), refl, (1, [], lit< tt, refl, (0, [], lit< tt, refl, (refl, (refl, tt))))) in
    let e : true ≡ false = h.0.sorted.0.0.0.0 in cc

-- one row on each side, with the key (0, 1): by its first column in partition 0, by its second in partition 1
pub not_joins_lie_apart : JoinsLieApart → ⊥
not_joins_lie_apart rule =
    let keys : List Key = record { col = 0; desc = false } ∷ (record { col = 1; desc = false } ∷ []) in
    let j : Join = record { left_keys = keys; right_keys = keys; left_others = []; right_others = []; keeps_left = false; keeps_right = false } in
    let s : State = record { agree = Some (0 ∷ []); place = spot.Placed (place.Modulus 0); sort = keys } in
    let t : State = record { agree = Some (1 ∷ []); place = spot.Placed (place.Modulus 1); sort = keys } in
    let A : List (List Row) = (one ∷ []) ∷ ([] ∷ []) in
    let B : List (List Row) = [] ∷ ((one ∷ []) ∷ []) in
    let first : Holds s A (one ∷ []) = (record { bag = IsPermutation-refl (one ∷ []); agree = λ v. inl (refl, (refl, tt)); sorted = (((tt, tt), (tt, tt)), (tt, tt)) }, ((refl, tt), (tt, tt))) in
    let second : Holds t B (one ∷ []) = (record { bag = IsPermutation-refl (one ∷ []); agree = λ v. inr (refl, inl (refl, tt)); sorted = ((tt, ((tt, tt), tt)), (tt, tt)) }, (tt, ((refl, tt), tt))) in
    let h = rule j s t A B (one ∷ []) (one ∷ []) refl refl refl refl refl refl refl first second in
    let c = permuted_long [] (result (join j) 0 ((one ∷ []) ∷ ((one ∷ []) ∷ []))) h.0.bag in
    absurd (omega (arith, c))

-- in one partition, but not sorted by what tells the rows apart
pub not_regain_without_sort : RegainWithoutSort → ⊥
not_regain_without_sort rule = go (h.0.agree [])
  where
    holds : Holds (record { agree = Some (1 ∷ []); place = spot.Solo; sort = [] }) turned both
    holds = (record { bag = IsPermutation-append_comm (two ∷ []) (one ∷ []); agree = turned_agree (1 ∷ []) (λ g. cc); sorted = ((((refl, tt), (tt, tt)), tt), ((refl, tt), (tt, tt))) }, refl)

    h : Holds (record { agree = Some []; place = spot.Solo; sort = [] }) turned both
    h = rule (1 ∷ []) (record { agree = Some (1 ∷ []); place = spot.Solo; sort = [] }) turned both refl (lit< tt) holds

    go : OneHolds ((two ∷ (one ∷ [])) ∷ []) (one ∷ (two ∷ [])) → ⊥
    go (inl k) = let e = k.0 in cc
    go (inr k) = k.1
