-- What operators and routes need of links, part by part, and which parts a state misses.
use Rattle.std.specs.Prelude.{ℕ, zero, suc, Bool, true, false, not, ◌&&◌, ◌||◌, ◌==◌, List, [], ◌∷◌, ◌++◌, get_or}
use Rattle.std.specs.List.{filter}
use Rattle.ds_schema.specs.declared.key.Key.{Key}
use Rattle.ds_schema.specs.Rows.{cols}
use Rattle.op_base.specs.Columns.{pairs_of}
use Rattle.op_base.specs.Keyed.{get_keys}
use Rattle.flow_graph.specs.declared.state.State.{State}
use Rattle.flow_graph.specs.declared.state.Spot.{Spot}
use Rattle.flow_graph.specs.declared.state.Spot.TheVariants as spot
use Rattle.flow_graph.specs.declared.route.Route.{Route}
use Rattle.flow_graph.specs.declared.route.Route.TheVariants as route
use Rattle.flow_graph.specs.Forms.{Form, import, dsread, by_row, tsort, remdup, group, join, merge, lookup, changecapture, funnel, funnel_sequence, funnel_sort}
use Rattle.flow_rules.specs.declared.need.Need.{Need}
use Rattle.flow_rules.specs.declared.need.Need.TheVariants.{NotEntire, Placed, Colocated, SamePlace, Agree, Sorted, MergeSort, Reference}
use Rattle.flow_derive.specs.Derive.{placed_in, agrees_in, same_place, carried_place, first_state}

-- the keys of an operator on input i
abbrev pub input_keys : Form → ℕ → List Key
input_keys (remdup keys) i = keys
input_keys (group keys hashes sees_order) i = keys
input_keys (join left right) zero = left
input_keys (join left right) (suc i) = right
input_keys (merge keys) i = get_keys keys i
input_keys (lookup main reference passes) zero = main
input_keys (lookup main reference passes) (suc i) = reference
input_keys (changecapture keys) i = keys
input_keys (funnel_sort keys) i = keys
input_keys f i = []

-- the place of input 0, over the columns of input i
abbrev pub first_place : Form → List State → ℕ → Spot
first_place f states i = carried_place (pairs_of (cols (input_keys f 0)) (cols (input_keys f i))) (first_state states).place

abbrev pub part_if : Bool → Need → List Need
part_if true part = part ∷ []
part_if false part = []

-- joins, merge and changecapture: input 0 lies by its keys K, the others where input 0 does
abbrev pub keyed_needs : Bool → Spot → List Key → ℕ → List Need
keyed_needs agree first K zero = NotEntire ∷ (Placed K ∷ (part_if agree (Agree K) ++ (Sorted K ∷ [])))
keyed_needs agree first K (suc i) = NotEntire ∷ (SamePlace first ∷ (part_if agree (Agree K) ++ (Sorted K ∷ [])))

-- the parts of the need of input i, in the order in which they are tested
abbrev pub needs : Form → Spot → ℕ → List Need
needs import first i = []
needs (dsread partitions declared) first i = []
needs (by_row passes) first i = NotEntire ∷ []
needs (tsort keys) first i = NotEntire ∷ []
needs (remdup keys) first i = NotEntire ∷ (Agree keys ∷ (Sorted keys ∷ []))
needs (group keys hashes sees_order) first i = NotEntire ∷ (Colocated keys ∷ (part_if sees_order (Agree keys) ++ part_if (not hashes) (Sorted keys)))
needs (join left right) first i = keyed_needs false first (input_keys (join left right) i) i
needs (merge keys) first i = keyed_needs true first (input_keys (merge keys) i) i
needs (lookup main reference passes) first zero = NotEntire ∷ []
needs (lookup main reference passes) first (suc i) = Reference reference ∷ []
needs (changecapture keys) first i = keyed_needs true first keys i
needs funnel first i = NotEntire ∷ []
needs funnel_sequence first i = NotEntire ∷ []
needs (funnel_sort keys) first i = NotEntire ∷ (Sorted keys ∷ [])

abbrev pub is_entire : Spot → Bool
is_entire spot.Entire = true
is_entire p = false

abbrev pub same_way : Bool → Bool → Bool
same_way true b = b
same_way false b = not b

-- a sort list begins with keys: the same columns in the same order and directions
abbrev pub begins_with : List Key → List Key → Bool
begins_with [] sort = true
begins_with (k ∷ keys) [] = false
begins_with (k ∷ keys) (s ∷ sort) = (k.col == s.col) && (same_way k.desc s.desc && begins_with keys sort)

-- a state meets a part of a need, on an input over whose columns input 0 lies at `first`
abbrev pub meets : Spot → State → Need → Bool
meets first s NotEntire = not (is_entire s.place)
meets first s (Placed K) = placed_in (cols K) s.place
meets first s (Colocated K) = placed_in (cols K) s.place || agrees_in (cols K) s.agree
meets first s (SamePlace place) = same_place s.place place
meets first s (Agree K) = agrees_in (cols K) s.agree
meets first s (Sorted K) = begins_with K s.sort
meets first s (MergeSort K) = begins_with K s.sort
meets first s (Reference K) = agrees_in (cols K) s.agree && (is_entire s.place || (placed_in (cols K) s.place && same_place s.place first))

-- the parts that input i misses, of the states of all inputs
abbrev pub missed : Form → List State → ℕ → List Need
missed f states i =
    let first = first_place f states i in
    filter (λ part. not (meets first (get_or states i (first_state [])) part)) (needs f first i)

-- what a route needs of the state of its producer's output
abbrev pub route_needs : Route → List Need
route_needs (route.Merge keys) = MergeSort keys ∷ []
route_needs r = []

abbrev pub route_missed : Route → State → List Need
route_missed r s = filter (λ part. not (meets spot.None s part)) (route_needs r)
