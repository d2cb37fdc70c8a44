-- All routes keep what their states say.
use Rattle.std.proofs.Common.{Bool, List, None, Option, Some, arith, false, inl, length, mod-lt, refl, subst, sym, true, ℕ, ◌≡◌, ◌≢◌, ◌+◌, ◌<◌, ◌∷◌, ◌++◌, ◌%◌, []}
use Rattle.std.specs.List.{AllByRecursion}
use Rattle.std.specs.Ordering.{is_lt}
use Rattle.std.specs.declared.cmp.Ordering.{Ordering}
use Rattle.ds_schema.specs.Rows.{row_cmp, val}
use Rattle.ds_schema.specs.declared.key.Key.{Key}
use Rattle.ds_value.specs.Values.{number}
use Rattle.ds_value.specs.declared.value.Value.{Value}
use Rattle.flow_graph.specs.Destinations.{SentFrom}
use Rattle.flow_graph.specs.Parts.{Sorted}
use Rattle.ds_place.specs.Places.{hash_number, modulus_number}
use Rattle.flow_graph.specs.Runs.{Arrives}
use Rattle.flow_graph.specs.States.{AgreeIf, Common, Holds, LiesAt}
use Rattle.ds_place.specs.declared.place.Place.TheVariants.{Hash, Modulus}
use Rattle.flow_graph.specs.declared.route.Route.{Route}
use Rattle.flow_graph.specs.declared.state.Spot.{Spot}
use Rattle.flow_graph.specs.declared.state.State.{State}
use Rattle.flow_derive.specs.Derive.{merged_sort, more, routed_state, solo_sort}
use Rattle.op_base.specs.Columns.{Row}
use Rattle.op_base.specs.Lists.{Interleaves, IsArranged, Merges, in_turn, joined}
use Rattle.flow_graph.proofs.Lanes.{from_one, sent_routed}
use Rattle.flow_graph.proofs.PartLaws.{collect_agree, collect_bag, hash_agree, hash_placed, sent_bag}
use Rattle.flow_graph.proofs.PassingColumns.{below}
use Rattle.flow_graph.proofs.StateLaws.{holds_plain, modulus_below}
use Rattle.flow_rules.proofs.NeedTypes.{Begins, RouteNeeds}
use Rattle.op_base.proofs.Interleavings.{interleaves_one, joined_interleaves, turns_interleave}
use Rattle.op_base.proofs.KeySorts.{arranged_first}
use Rattle.op_base.proofs.Merging.{merge_arranged, merge_interleaves}
use Rattle.op_base.proofs.Orders.{row_total}
use Rattle.flow_graph.specs.declared.state.Spot.TheVariants as spot
use Rattle.flow_graph.specs.declared.route.Route.TheVariants as route

pub any_sorted : (rows : List Row) → IsArranged (row_cmp []) rows
any_sorted [] = tt
any_sorted (r ∷ rows) = (all rows, any_sorted rows)
  where
    all : (ys : List Row) → AllByRecursion (λ y. is_lt (row_cmp [] y r) ≡ false) ys
    all [] = tt
    all (y ∷ ys) = (refl, all ys)

pub all_any : (parts : List (List Row)) → AllByRecursion (IsArranged (row_cmp [])) parts
all_any [] = tt
all_any (rows ∷ parts) = (any_sorted rows, all_any parts)

-- the order that is left, after what sends each row to one consumer
pub sent_sorted_in : (p : Spot) (keys : List Key) (goes : ℕ → ℕ → Row → ℕ) (parts got : List (List Row)) (whole : List Row) → LiesAt p parts → Sorted keys parts whole → SentFrom goes 0 parts got → Sorted (solo_sort p keys) got whole
sent_sorted_in spot.Solo keys goes [] got whole l h s = absurd (omega arith)
sent_sorted_in spot.Solo keys goes (rows ∷ []) got whole l h s = (from_one (row_cmp keys) goes 0 rows got h.0.0 s, h.1)
sent_sorted_in spot.Solo keys goes (rows ∷ (more ∷ parts)) got whole l h s = absurd (omega arith)
sent_sorted_in (spot.Placed (Hash K)) keys goes parts got whole l h s = (all_any got, any_sorted whole)
sent_sorted_in (spot.Placed (Modulus c)) keys goes parts got whole l h s = (all_any got, any_sorted whole)
sent_sorted_in spot.Entire keys goes parts got whole l h s = (all_any got, any_sorted whole)
sent_sorted_in spot.None keys goes parts got whole l h s = (all_any got, any_sorted whole)

by_place : (K : List ℕ) (number : List Value → ℕ) (agree : Option (List ℕ)) (parts got : List (List Row)) (whole : List Row) → AgreeIf agree parts whole → SentFrom (λ p t r. number (val K r)) 0 parts got → ((v : List Value) → number v < length got) → AgreeIf (more agree K) got whole
by_place K number None parts got whole h s below = tt
by_place K number (Some G) parts got whole h s below = hash_agree G K number parts got whole h (sent_routed (λ r. number (val K r)) 0 parts got s) below

placed_common : (K : List ℕ) (number : List Value → ℕ) (s : State) (place : Spot) (parts got : List (List Row)) (whole : List Row) → Common s parts whole → LiesAt s.place parts → SentFrom (λ p t r. number (val K r)) 0 parts got → ((v : List Value) → number v < length got) → Common (record { agree = more s.agree K; place = place; sort = solo_sort s.place s.sort }) got whole
placed_common K number s place parts got whole h l sent below = record {
  bag = sent_bag (λ p t r. number (val K r)) parts got whole h.bag sent (λ p t r. below (val K r));
  agree = by_place K number s.agree parts got whole h.agree sent below;
  sorted = sent_sorted_in s.place s.sort (λ p t r. number (val K r)) parts got whole l h.sorted sent;
}

pub collect_if : (agree : Option (List ℕ)) (parts : List (List Row)) (rows whole : List Row) → AgreeIf agree parts whole → Interleaves parts rows → AgreeIf agree (rows ∷ []) whole
collect_if None parts rows whole h i = tt
collect_if (Some G) parts rows whole h i = collect_agree G parts rows whole h i

one_lane : (p : Spot) (parts : List (List Row)) (rows : List Row) → p ≡ spot.Solo → LiesAt p parts → Interleaves parts rows → (R : Row → Row → Ordering) → AllByRecursion (IsArranged R) parts → IsArranged R rows
one_lane p parts rows e l i R h = go parts (subst (λ q. LiesAt q parts) e l) i h
  where
    go : (ps : List (List Row)) → length ps ≡ 1 → Interleaves ps rows → AllByRecursion (IsArranged R) ps → IsArranged R rows
    go [] l i h = absurd (omega arith)
    go (xs ∷ []) l i h = subst (IsArranged R) (sym (interleaves_one (xs ∷ []) rows xs i (inl (refl, tt)))) h.0
    go (xs ∷ (ys ∷ ps)) l i h = absurd (omega arith)

pub gather_sorted : (p : Spot) (keys : List Key) (parts : List (List Row)) (rows whole : List Row) → LiesAt p parts → Sorted keys parts whole → Interleaves parts rows → Sorted (solo_sort p keys) (rows ∷ []) whole
gather_sorted spot.Solo keys parts rows whole l h i = ((one_lane spot.Solo parts rows refl l i (row_cmp keys) h.0, tt), h.1)
gather_sorted (spot.Placed (Hash K)) keys parts rows whole l h i = ((any_sorted rows, tt), any_sorted whole)
gather_sorted (spot.Placed (Modulus c)) keys parts rows whole l h i = ((any_sorted rows, tt), any_sorted whole)
gather_sorted spot.Entire keys parts rows whole l h i = ((any_sorted rows, tt), any_sorted whole)
gather_sorted spot.None keys parts rows whole l h i = ((any_sorted rows, tt), any_sorted whole)

each_first : (K M : List Key) (parts : List (List Row)) → AllByRecursion (IsArranged (row_cmp (K ++ M))) parts → AllByRecursion (IsArranged (row_cmp K)) parts
each_first K M [] h = tt
each_first K M (rows ∷ parts) h = (arranged_first K M rows h.0, each_first K M parts h.1)

merge_sorted : (p : Spot) (keys L : List Key) (parts : List (List Row)) (rows whole : List Row) → Begins L keys → LiesAt p parts → Sorted keys parts whole → Merges (row_cmp L) parts rows → Sorted (merged_sort p keys L) (rows ∷ []) whole
merge_sorted p keys L parts rows whole b l h m = go p l
  where
    up : Sorted (L ++ b.0) parts whole
    up = subst (λ ks. Sorted ks parts whole) b.1 h

    by : Sorted L (rows ∷ []) whole
    by = ((merge_arranged (row_total L) parts rows (each_first L b.0 parts up.0) m, tt), arranged_first L b.0 whole up.1)

    go : (q : Spot) → LiesAt q parts → Sorted (merged_sort q keys L) (rows ∷ []) whole
    go spot.Solo k = ((one_lane spot.Solo parts rows refl k (merge_interleaves (row_cmp L) parts rows m) (row_cmp keys) h.0, tt), h.1)
    go (spot.Placed (Hash K)) k = by
    go (spot.Placed (Modulus c)) k = by
    go spot.Entire k = by
    go spot.None k = by

each_entire : (s : State) (parts got : List (List Row)) (whole : List Row) → s.place ≢ spot.Entire → Common s parts whole → LiesAt s.place parts → AllByRecursion (Interleaves parts) got →
    AllByRecursion (λ rows. Common (record { agree = s.agree; place = spot.Entire; sort = solo_sort s.place s.sort }) (rows ∷ []) whole) got
each_entire s parts [] whole e h l i = tt
each_entire s parts (rows ∷ got) whole e h l i = (record { bag = collect_bag parts rows whole h.bag i.0; agree = collect_if s.agree parts rows whole h.agree i.0; sorted = gather_sorted s.place s.sort parts rows whole l h.sorted i.0 }, each_entire s parts got whole e h l i.1)

-- from any number of partitions to one, in some order
gathered : (s : State) (parts got : List (List Row)) (whole : List Row) → s.place ≢ spot.Entire → Holds s parts whole → (rows : List Row) → got ≡ rows ∷ [] → Interleaves parts rows → Holds (record { agree = s.agree; place = spot.Solo; sort = solo_sort s.place s.sort }) got whole
gathered s parts got whole e h rows a i =
    let k = holds_plain s.place s parts whole e h in
    subst (λ ps. Holds (record { agree = s.agree; place = spot.Solo; sort = solo_sort s.place s.sort }) ps whole) (sym a)
    (record { bag = collect_bag parts rows whole k.0.bag i; agree = collect_if s.agree parts rows whole k.0.agree i; sorted = gather_sorted s.place s.sort parts rows whole k.1 k.0.sorted i }, refl)

-- The law of routes, row by row.
pub route_holds : (seq : Bool) (r : Route) (s : State) (parts got : List (List Row)) (whole : List Row) → RouteNeeds r s → s.place ≢ spot.Entire → 0 < length got → Holds s parts whole → Arrives seq r parts got → Holds (routed_state seq r s) got whole
route_holds seq route.Same s parts got whole n e l h a = subst (λ ps. Holds s ps whole) (sym a) h
route_holds false route.RoundRobin s parts got whole n e l h a =
    let k = holds_plain s.place s parts whole e h in (
      record {
        bag = sent_bag (λ p t r. (p + t) % length got) parts got whole k.0.bag a (λ p t r. mod-lt _ l);
        agree = tt;
        sorted = sent_sorted_in s.place s.sort (λ p t r. (p + t) % length got) parts got whole k.1 k.0.sorted a;
      },
      tt,
    )
route_holds true route.RoundRobin s parts got whole n e l h a = gathered s parts got whole e h (in_turn parts) a (turns_interleave parts)
route_holds seq route.Entire s parts got whole n e l h a = let k = holds_plain s.place s parts whole e h in each_entire s parts got whole e k.0 k.1 a
route_holds seq (route.Hash K) s parts got whole n e l h a =
    let k = holds_plain s.place s parts whole e h in
    (placed_common K (hash_number (length got)) s (spot.Placed (Hash K)) parts got whole k.0 k.1 a (λ v. mod-lt _ l), hash_placed K (hash_number (length got)) parts got (sent_routed (λ r. hash_number (length got) (val K r)) 0 parts got a))
route_holds seq (route.Modulus c) s parts got whole n e l h a =
    let k = holds_plain s.place s parts whole e h in
    (placed_common (c ∷ []) (modulus_number (length got)) s (spot.Placed (Modulus c)) parts got whole k.0 k.1 a (λ v. modulus_below (length got) v l), hash_placed (c ∷ []) (modulus_number (length got)) parts got (sent_routed (λ r. modulus_number (length got) (val (c ∷ []) r)) 0 parts got a))
route_holds seq route.Any s parts got whole n e l h a = gathered s parts got whole e h a.0 a.1 a.2
route_holds seq route.Ordered s parts got whole n e l h a = gathered s parts got whole e h (joined parts) a (joined_interleaves parts)
route_holds seq (route.Merge L) s parts got whole n e l h a =
    let k = holds_plain s.place s parts whole e h in
    let i = merge_interleaves (row_cmp L) parts a.0 a.2 in
    subst (λ ps. Holds (routed_state seq (route.Merge L) s) ps whole) (sym a.1)
    (record { bag = collect_bag parts a.0 whole k.0.bag i; agree = collect_if s.agree parts a.0 whole k.0.agree i; sorted = merge_sorted s.place s.sort L parts a.0 whole n k.1 k.0.sorted a.2 }, refl)
