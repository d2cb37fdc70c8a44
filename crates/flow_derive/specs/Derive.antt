-- What is known of an operator's outputs and of links: agree set, place and sort, through operators, routes and sorts, and refined.
use Rattle.std.specs.Prelude.{ℕ, suc, Bool, true, false, cond, if◌then◌else◌, ◌&&◌, List, [], ◌∷◌, ◌++◌, map, Option, Some, None, ◌==◌}
use Rattle.ds_schema.specs.declared.key.Key.{Key}
use Rattle.ds_schema.specs.Rows.{cols}
use Rattle.op_base.specs.Columns.{Pairs, Passing, everything, only, pairs_of, column_in, all_columns, is_in, lies}
use Rattle.op_base.specs.Keyed.{get_keys, without}
use Rattle.flow_graph.specs.Columns.{set_of}
use Rattle.ds_place.specs.declared.place.Place.{Place}
use Rattle.ds_place.specs.declared.place.Place.TheVariants.{Hash, Modulus}
use Rattle.flow_graph.specs.declared.state.State.{State}
use Rattle.flow_graph.specs.declared.state.Spot.{Spot}
use Rattle.flow_graph.specs.declared.state.Spot.TheVariants as spot
use Rattle.flow_graph.specs.declared.route.Route.{Route}
use Rattle.flow_graph.specs.declared.route.Route.TheVariants as route
use Rattle.flow_graph.specs.Forms.{Form, import, dsread, by_row, tsort, remdup, group, join, merge, lookup, changecapture, funnel, funnel_sequence, funnel_sort}

abbrev pub with_column : Option ℕ → Option (List ℕ) → Option (List ℕ)
with_column None ds = None
with_column (Some d) None = None
with_column (Some d) (Some ds) = Some (d ∷ ds)

-- the output columns of these columns, if all of them pass
abbrev pub carried : Pairs → List ℕ → Option (List ℕ)
carried m [] = Some []
carried m (c ∷ cs) = with_column (column_in m c) (carried m cs)

-- an agree set where all of it passes
abbrev pub carried_agree : Pairs → Option (List ℕ) → Option (List ℕ)
carried_agree m None = None
carried_agree m (Some G) = carried m G

abbrev pub hashed_if : Option (List ℕ) → Spot
hashed_if None = spot.None
hashed_if (Some C) = spot.Placed (Hash C)

abbrev pub modulus_if : Option ℕ → Spot
modulus_if None = spot.None
modulus_if (Some c) = spot.Placed (Modulus c)

-- a place where its columns pass, over another input's or an output's columns
abbrev pub carried_place : Pairs → Spot → Spot
carried_place m spot.Solo = spot.Solo
carried_place m (spot.Placed (Hash C)) = hashed_if (carried m C)
carried_place m (spot.Placed (Modulus c)) = modulus_if (column_in m c)
carried_place m spot.Entire = spot.None
carried_place m spot.None = spot.None

abbrev pub key_if : Option ℕ → Bool → List Key → List Key
key_if None desc keys = []
key_if (Some c) desc keys = record { col = c; desc = desc } ∷ keys

-- the longest prefix of a sort list whose columns pass
abbrev pub carried_sort : Pairs → List Key → List Key
carried_sort m [] = []
carried_sort m (k ∷ keys) = key_if (column_in m k.col) k.desc (carried_sort m keys)

-- a place as it is kept where its columns pass; entire has none
abbrev pub kept_place : Pairs → Spot → Spot
kept_place m spot.Solo = spot.Solo
kept_place m (spot.Placed place) = carried_place m (spot.Placed place)
kept_place m spot.Entire = spot.Entire
kept_place m spot.None = spot.None

-- a state as far as it passes
abbrev pub passed_state : Passing → State → State
passed_state everything s = s
passed_state (only m) s = record { agree = carried_agree m s.agree; place = kept_place m s.place; sort = carried_sort m s.sort }

-- solo, or a place whose columns are all among these
abbrev pub placed_in : List ℕ → Spot → Bool
placed_in K spot.Solo = true
placed_in K (spot.Placed (Hash C)) = lies C K
placed_in K (spot.Placed (Modulus c)) = is_in c K
placed_in K spot.Entire = false
placed_in K spot.None = false

-- there is an agree set, and it lies in these columns
abbrev pub agrees_in : List ℕ → Option (List ℕ) → Bool
agrees_in K None = false
agrees_in K (Some G) = lies G K

-- keys as the first columns of an output, from column n on
abbrev pub first_keys : ℕ → List Key → List Key
first_keys n [] = []
first_keys n (k ∷ keys) = record { col = n; desc = k.desc } ∷ first_keys (suc n) keys

abbrev pub same_list : List ℕ → List ℕ → Bool
same_list [] [] = true
same_list [] (d ∷ ds) = false
same_list (c ∷ cs) [] = false
same_list (c ∷ cs) (d ∷ ds) = (c == d) && same_list cs ds

-- the same place, and it is solo, hash or modulus
abbrev pub same_place : Spot → Spot → Bool
same_place spot.Solo spot.Solo = true
same_place (spot.Placed (Hash C)) (spot.Placed (Hash D)) = same_list C D
same_place (spot.Placed (Modulus c)) (spot.Placed (Modulus d)) = c == d
same_place p q = false

abbrev pub all_at_place : Spot → List Spot → Bool
all_at_place p [] = true
all_at_place p (q ∷ places) = same_place q p && all_at_place p places

-- the place that all have, if it is solo, hash or modulus
abbrev pub common_place : List Spot → Spot
common_place [] = spot.None
common_place (p ∷ places) = cond (same_place p p && all_at_place p places) p spot.None

abbrev pub both_sets : Option (List ℕ) → Option (List ℕ) → Option (List ℕ)
both_sets None U = None
both_sets (Some G) None = None
both_sets (Some G) (Some U) = Some (G ++ U)

-- the agree sets of all inputs, together
abbrev pub agree_sets : List State → Option (List ℕ)
agree_sets [] = Some []
agree_sets (s ∷ states) = both_sets s.agree (agree_sets states)

abbrev pub places : List State → List Spot
places states = map (λ (s : State). s.place) states

-- each input's place, over the columns of an output with the keys H
abbrev pub key_places : List (List Key) → List Key → List State → List Spot
key_places [] H states = []
key_places (K ∷ keys) H [] = []
key_places (K ∷ keys) H (s ∷ states) = carried_place (pairs_of (cols K) (cols H)) s.place ∷ key_places keys H states

abbrev pub all_agree_in : List (List Key) → List State → Bool
all_agree_in [] states = true
all_agree_in (K ∷ keys) [] = true
all_agree_in (K ∷ keys) (s ∷ states) = agrees_in (cols K) s.agree && all_agree_in keys states

-- joins, merge and changecapture, on an output with the keys H
abbrev pub keyed_state : List (List Key) → List Key → List State → State
keyed_state keys H states = record { agree = cond (all_agree_in keys states) (Some (cols H)) None; place = common_place (key_places keys H states); sort = H }

-- group: G where it lies in K; else K where placed in K; else none
abbrev pub group_agree : List ℕ → State → Option (List ℕ)
group_agree K s = cond (agrees_in K s.agree) s.agree (cond (placed_in K s.place) (Some K) None)

abbrev pub grouped_state : List Key → Bool → State → State
grouped_state keys hashes s =
    let H = first_keys 0 keys in
    let m = pairs_of (cols keys) (cols H) in
    record { agree = carried_agree m (group_agree (cols keys) s); place = carried_place m s.place; sort = cond hashes [] H }

abbrev pub declared_state : Option Place → State
declared_state None = record { agree = None; place = spot.None; sort = [] }
declared_state (Some (Hash K)) = record { agree = Some K; place = spot.Placed (Hash K); sort = [] }
declared_state (Some (Modulus c)) = record { agree = Some (c ∷ []); place = spot.Placed (Modulus c); sort = [] }

-- import, and dsread of one partition
abbrev pub solo_state : State
solo_state = record { agree = Some []; place = spot.Solo; sort = [] }

abbrev pub read_state : ℕ → Option Place → State
read_state partitions declared = cond (partitions == 1) solo_state (declared_state declared)

-- an agree set with more columns
abbrev pub more : Option (List ℕ) → List ℕ → Option (List ℕ)
more None columns = None
more (Some G) columns = Some (G ++ columns)

-- where there is a common place: the agree sets with its columns and K
abbrev pub if_common : Spot → Option (List ℕ) → List ℕ → Option (List ℕ)
if_common spot.Solo U K = more U K
if_common (spot.Placed (Hash C)) U K = more U (C ++ K)
if_common (spot.Placed (Modulus c)) U K = more U (c ∷ K)
if_common spot.Entire U K = None
if_common spot.None U K = None

-- the effect of a sort
abbrev pub sorted_state : Option (List Key) → State → State
sorted_state None s = s
sorted_state (Some keys) s = record { agree = s.agree; place = s.place; sort = keys ++ without keys s.sort }

abbrev pub first_state : List State → State
first_state [] = record { agree = None; place = spot.None; sort = [] }
first_state (s ∷ states) = s

-- the state of output q
abbrev pub derived : Form → ℕ → List State → State
derived import q states = solo_state
derived (dsread partitions declared) q states = read_state partitions declared
derived (by_row passes) q states = passed_state (passes q) (first_state states)
derived (tsort keys) q states = sorted_state (Some keys) (first_state states)
derived (remdup keys) q states = let s = first_state states in record { agree = cond (agrees_in (cols keys) s.agree) s.agree None; place = s.place; sort = s.sort }
derived (group keys hashes sees_order) q states = grouped_state keys hashes (first_state states)
derived (join left right) q states = keyed_state (left ∷ (right ∷ [])) (first_keys 0 left) states
derived (merge keys) q states = keyed_state keys (get_keys keys q) states
derived (lookup main reference passes) q states = passed_state (passes q) (first_state states)
derived (changecapture keys) q states = keyed_state (keys ∷ (keys ∷ [])) keys states
derived funnel q states = record { agree = None; place = common_place (places states); sort = [] }
derived funnel_sequence q states = record { agree = if_common (common_place (places states)) (agree_sets states) []; place = common_place (places states); sort = [] }
derived (funnel_sort keys) q states = record { agree = if_common (common_place (places states)) (agree_sets states) (cols keys); place = common_place (places states); sort = keys }

-- the sort list after a route that brings rows of several partitions together in any order
abbrev pub solo_sort : Spot → List Key → List Key
solo_sort spot.Solo keys = keys
solo_sort (spot.Placed place) keys = []
solo_sort spot.Entire keys = []
solo_sort spot.None keys = []

-- and after a merge
abbrev pub merged_sort : Spot → List Key → List Key → List Key
merged_sort spot.Solo keys by = keys
merged_sort (spot.Placed place) keys by = by
merged_sort spot.Entire keys by = by
merged_sort spot.None keys by = by

-- the effect of a route, into a sequential consumer or not
abbrev pub routed_state : Bool → Route → State → State
routed_state seq route.Same s = s
routed_state false route.RoundRobin s = record { agree = None; place = spot.None; sort = solo_sort s.place s.sort }
routed_state true route.RoundRobin s = record { agree = s.agree; place = spot.Solo; sort = solo_sort s.place s.sort }
routed_state seq route.Entire s = record { agree = s.agree; place = spot.Entire; sort = solo_sort s.place s.sort }
routed_state seq (route.Hash K) s = record { agree = more s.agree K; place = spot.Placed (Hash K); sort = solo_sort s.place s.sort }
routed_state seq (route.Modulus c) s = record { agree = more s.agree (c ∷ []); place = spot.Placed (Modulus c); sort = solo_sort s.place s.sort }
routed_state seq route.Any s = record { agree = s.agree; place = spot.Solo; sort = solo_sort s.place s.sort }
routed_state seq route.Ordered s = record { agree = s.agree; place = spot.Solo; sort = solo_sort s.place s.sort }
routed_state seq (route.Merge keys) s = record { agree = s.agree; place = spot.Solo; sort = merged_sort s.place s.sort keys }

-- all columns agree where there is a place
abbrev pub filled_agree : ℕ → Spot → Option (List ℕ)
filled_agree width spot.Solo = Some (all_columns width)
filled_agree width (spot.Placed place) = Some (all_columns width)
filled_agree width spot.Entire = Some (all_columns width)
filled_agree width spot.None = None

abbrev pub or_filled : Option (List ℕ) → Option (List ℕ) → Option (List ℕ)
or_filled None filled = filled
or_filled (Some G) filled = Some G

abbrev pub filled : ℕ → State → State
filled width s = record { agree = or_filled s.agree (filled_agree width s.place); place = s.place; sort = s.sort }

-- the columns that decide a place, where it is solo, hash or modulus
abbrev pub place_columns : Spot → Option (List ℕ)
place_columns spot.Solo = Some []
place_columns (spot.Placed (Hash C)) = Some C
place_columns (spot.Placed (Modulus c)) = Some (c ∷ [])
place_columns spot.Entire = None
place_columns spot.None = None

-- an agree set that holds the columns C of the place, and lies in C with the sort's columns, becomes C
abbrev pub regained_set : Option (List ℕ) → List ℕ → List Key → List ℕ
regained_set None G sort = G
regained_set (Some C) G sort = if lies C G && lies G (C ++ cols sort) then C else G

abbrev pub regained_if : Option (List ℕ) → Spot → List Key → Option (List ℕ)
regained_if None place sort = None
regained_if (Some G) place sort = Some (regained_set (place_columns place) G sort)

abbrev pub regain : State → State
regain s = record { agree = regained_if s.agree s.place s.sort; place = s.place; sort = s.sort }

abbrev pub set_if : Option (List ℕ) → Option (List ℕ)
set_if None = None
set_if (Some G) = Some (set_of G)

-- a state with its agree set as a set
abbrev pub settled : State → State
settled s = record { agree = set_if s.agree; place = s.place; sort = s.sort }

-- refining: all columns for none where there is a place, then, where that is asked for, regain; the agree set is a set
abbrev pub refined_agree : Bool → ℕ → State → Option (List ℕ)
refined_agree true width s = (regain (filled width s)).agree
refined_agree false width s = (filled width s).agree

abbrev pub refined : Bool → ℕ → State → State
refined regains width s = record { agree = set_if (refined_agree regains width s); place = s.place; sort = s.sort }
