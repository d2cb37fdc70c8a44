-- The needs of operators as statements on the states of their inputs.
use Rattle.std.proofs.Common.{Bool, List, cond, false, true, ℕ, ◌≡◌, ◌≢◌, ◌⊎◌, ◌∷◌, ◌++◌, []}
use Rattle.std.specs.List.{AllByRecursion}
use Rattle.ds_schema.specs.Rows.{cols}
use Rattle.ds_schema.specs.declared.key.Key.{Key}
use Rattle.flow_graph.specs.Forms.{form}
use Rattle.flow_graph.specs.Operators.{Op, by_row, changecapture, dsread, funnel, funnel_sequence, funnel_sort, group, import, join, lookup, merge, remdup, tsort}
use Rattle.flow_graph.specs.declared.route.Route.{Route}
use Rattle.flow_graph.specs.declared.state.Spot.{Spot}
use Rattle.flow_graph.specs.declared.state.State.{State}
use Rattle.flow_derive.specs.Derive.{agrees_in, carried_place, derived, first_keys, placed_in}
use Rattle.op_base.specs.Columns.{pairs_of}
use Rattle.op_base.specs.Meanings.{Looking}
use Rattle.flow_graph.specs.declared.state.Spot.TheVariants as spot
use Rattle.flow_graph.specs.declared.route.Route.TheVariants as route

-- by operator
abbrev pub derived_op : Op → ℕ → List State → State
derived_op o q states = derived (form o) q states

-- a place by the numbers of keys, by which it is the same on all inputs if it is the same by names
abbrev pub key_place : List Key → Spot → Spot
key_place K place = carried_place (pairs_of (cols K) (cols (first_keys 0 K))) place

abbrev pub Begins : List Key → List Key → Type 0
Begins keys all = (rest : List Key) × (all ≡ keys ++ rest)

-- needs of one input, and of two
abbrev pub OneState : (State → Type 0) → List State → Type 0
OneState P [] = ⊥
OneState P (s ∷ []) = P s
OneState P (s ∷ (t ∷ states)) = ⊥

abbrev pub TwoStates : (State → State → Type 0) → List State → Type 0
TwoStates P [] = ⊥
TwoStates P (s ∷ []) = ⊥
TwoStates P (s ∷ (t ∷ [])) = P s t
TwoStates P (s ∷ (t ∷ (u ∷ states))) = ⊥

abbrev pub SomeStates : (State → Type 0) → List State → Type 0
SomeStates P [] = ⊥
SomeStates P (s ∷ states) = P s × AllByRecursion P states

abbrev pub NotEntire : State → Type 0
NotEntire s = s.place ≢ spot.Entire

abbrev pub SortedBy : List Key → State → Type 0
SortedBy keys s = Begins keys s.sort

abbrev pub AgreesIn : List Key → State → Type 0
AgreesIn keys s = agrees_in (cols keys) s.agree ≡ true

abbrev pub PlacedIn : List Key → State → Type 0
PlacedIn keys s = placed_in (cols keys) s.place ≡ true

abbrev pub AgreesIf : Bool → List Key → State → Type 0
AgreesIf true keys s = AgreesIn keys s
AgreesIf false keys s = Unit {0}

abbrev pub SortedIf : Bool → List Key → State → Type 0
SortedIf true keys s = SortedBy keys s
SortedIf false keys s = Unit {0}

-- every other input lies where input 0 does
abbrev pub OtherNeeds : Bool → List Key → State → List (List Key) → List State → Type 0
OtherNeeds agree K0 s0 [] [] = Unit {0}
OtherNeeds agree K0 s0 [] (s ∷ states) = ⊥
OtherNeeds agree K0 s0 (K ∷ keys) [] = ⊥
OtherNeeds agree K0 s0 (K ∷ keys) (s ∷ states) = NotEntire s × (key_place K s.place ≡ key_place K0 s0.place) × AgreesIf agree K s × SortedBy K s × OtherNeeds agree K0 s0 keys states

abbrev pub KeyedNeeds : Bool → List (List Key) → List State → Type 0
KeyedNeeds agree [] states = ⊥
KeyedNeeds agree (K ∷ keys) [] = ⊥
KeyedNeeds agree (K ∷ keys) (s ∷ states) = NotEntire s × PlacedIn K s × AgreesIf agree K s × SortedBy K s × OtherNeeds agree K s keys states

-- the reference of a lookup: everywhere, or where input 0 is
abbrev pub ReferenceAt : Looking → State → State → Type 0
ReferenceAt k s t = (t.place ≡ spot.Entire) ⊎ ((placed_in (cols k.reference_keys) t.place ≡ true) × (key_place k.reference_keys t.place ≡ key_place k.main_keys s.place))

abbrev pub Needs : Op → List State → Type 0
Needs (import lines rejects beyond) states = states ≡ []
Needs (dsread segments declared) states = states ≡ []
Needs (by_row rule) states = OneState NotEntire states
Needs (tsort keys) states = OneState NotEntire states
Needs (remdup last keys) states = OneState (λ s. NotEntire s × AgreesIn keys s × SortedBy keys s) states
Needs (group g) states = OneState (λ s. NotEntire s × (PlacedIn g.keys s ⊎ AgreesIn g.keys s) × AgreesIf g.sees_order g.keys s × SortedIf (cond g.hashes false true) g.keys s) states
Needs (join j) states = KeyedNeeds false (j.left_keys ∷ (j.right_keys ∷ [])) states
Needs (merge m) states = KeyedNeeds true m.keys states
Needs (lookup k) states = TwoStates (λ s t. NotEntire s × AgreesIn k.reference_keys t × ReferenceAt k s t) states
Needs (changecapture c) states = KeyedNeeds true (c.keys ∷ (c.keys ∷ [])) states
Needs funnel states = SomeStates NotEntire states
Needs funnel_sequence states = SomeStates NotEntire states
Needs (funnel_sort keys) states = SomeStates (λ s. NotEntire s × SortedBy keys s) states

abbrev pub RouteNeeds : Route → State → Type 0
RouteNeeds (route.Merge keys) s = SortedBy keys s
RouteNeeds r s = Unit {0}
