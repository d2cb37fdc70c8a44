-- What comes at a consumer's partitions, as this run brings it: producer by producer where a route leaves that open.
use Rattle.std.specs.Prelude.{◌≡◌, ℕ, ◌<◌, ◌^◌, ◌+◌, ◌%◌, Bool, true, false, List, [], ◌∷◌, map, replicate, All, ⊤}
use Rattle.ds_value.specs.Canonical.{IsShort}
use Rattle.ds_schema.specs.Rows.{InWidth, row_cmp}
use Rattle.ds_place.specs.declared.place.Place.{Place}
use Rattle.ds_place.specs.Places.{columns_read, HoldsWhole}
use Rattle.op_base.specs.Columns.{Row}
use Rattle.op_base.specs.Lists.{in_turn, joined}
use Rattle.op_collect.specs.Merged.{merged}
use Rattle.ds_place.specs.declared.place.Place.TheVariants as place
use Rattle.flow_graph.specs.declared.route.Route.{Route}
use Rattle.flow_graph.specs.declared.route.Route.TheVariants as route
use Rattle.flow_graph.specs.declared.route.Choice.{Choice}
use Rattle.ds_place.specs.Places.{place_number}
use Rattle.flow_graph.specs.Runs.{arranged_if}
use Rattle.list_run.specs.Dealt.{dealt}

-- a collector that goes by its producers: there are some, fewer than 2^32
abbrev pub Collects : ℕ → ℕ → Type 0
Collects producers consumers = (consumers ≡ 1) × (0 < producers) × (producers < 2 ^ 32)

-- a route between a number of producers and one of consumers: same joins equal numbers, entire leads into a parallel operator, and a collector has one consumer
abbrev pub Joins : Bool → Route → ℕ → ℕ → Type 0
Joins seq route.Same producers consumers = producers ≡ consumers
Joins false route.RoundRobin producers consumers = ⊤
Joins true route.RoundRobin producers consumers = Collects producers consumers
Joins false route.Entire producers consumers = ⊤
Joins true route.Entire producers consumers = ⊥
Joins seq (route.Hash K) producers consumers = ⊤
Joins seq (route.Modulus c) producers consumers = ⊤
Joins seq route.Any producers consumers = consumers ≡ 1
Joins seq route.Ordered producers consumers = consumers ≡ 1
Joins seq (route.Merge keys) producers consumers = Collects producers consumers

-- a row has the columns in which a place looks, a whole number where a remainder is taken, and texts that a hash can count
abbrev pub SuitsPlace : Place → Row → Type 0
SuitsPlace place r = All (InWidth r) (columns_read place) × HoldsWhole place r × All IsShort r

-- the same of a route that goes by a place
abbrev pub SuitsRoute : Route → Row → Type 0
SuitsRoute (route.Hash K) r = All (InWidth r) K × All IsShort r
SuitsRoute (route.Modulus c) r = SuitsPlace (place.Modulus c) r
SuitsRoute m r = ⊤

-- into a sequential consumer or a parallel one
abbrev pub routed : Bool → Route → ℕ → List (List Row) → List (List Row)
routed seq route.Same n sent = sent
routed false route.RoundRobin n sent = dealt (λ p t r. (p + t) % n) n sent
routed true route.RoundRobin n sent = in_turn sent ∷ []
routed seq route.Entire n sent = replicate n (joined sent)
routed seq (route.Hash K) n sent = dealt (λ p t r. place_number (place.Hash K) r n) n sent
routed seq (route.Modulus c) n sent = dealt (λ p t r. place_number (place.Modulus c) r n) n sent
routed seq route.Any n sent = joined sent ∷ []
routed seq route.Ordered n sent = joined sent ∷ []
routed seq (route.Merge keys) n sent = merged (row_cmp keys) sent ∷ []

-- and is sorted there, where that was chosen
abbrev pub delivered : Bool → Choice → ℕ → List (List Row) → List (List Row)
delivered seq choice n sent = map (arranged_if choice.sort) (routed seq choice.method n sent)
