-- Derived and refined states, and missed needs, by computing; wrong ones are refused.
use Rattle.std.proofs.Common.{◌≡◌, ℕ, true, false, List, [], ◌∷◌, refl, ap, Option, Some, None}
use Rattle.ds_schema.specs.declared.key.Key.{Key}
use Rattle.op_base.specs.Columns.{only}
use Rattle.op_base.specs.RowOperators.{modify_rule}
use Rattle.ds_place.specs.declared.place.Place.TheVariants.{Hash, Modulus}
use Rattle.flow_graph.specs.declared.route.Route.TheVariants as route
use Rattle.flow_graph.specs.declared.state.Spot.TheVariants as spot
use Rattle.flow_graph.specs.declared.state.State.{State}
use Rattle.flow_graph.specs.Forms.{dsread, by_row, tsort, remdup, group, join, merge, lookup, funnel_sequence, funnel_sort}
use Rattle.flow_rules.specs.declared.need.Need.TheVariants.{NotEntire, SamePlace, Agree, Sorted, MergeSort, Reference}
use Rattle.flow_derive.specs.Derive.{derived, routed_state, refined, sorted_state}
use Rattle.flow_rules.specs.Needs.{missed, route_missed}

abbrev up : ℕ → List Key
up c = record { col = c; desc = false } ∷ []

-- agrees in a column, hashed and sorted by it; the same without an agree set
abbrev by_hash : ℕ → State
by_hash c = record { agree = Some (c ∷ []); place = spot.Placed (Hash (c ∷ [])); sort = up c }

abbrev bag_by_hash : ℕ → State
bag_by_hash c = record { agree = None; place = spot.Placed (Hash (c ∷ [])); sort = up c }

abbrev solo : State
solo = record { agree = Some []; place = spot.Solo; sort = [] }

other_set : (c d : ℕ) (G : List ℕ) → ◌≡◌ {A = Option (List ℕ)} (Some (c ∷ (d ∷ G))) (Some (d ∷ [])) → ⊥
other_set c d G f = cc

some_set : (c : ℕ) (G : List ℕ) → ◌≡◌ {A = Option (List ℕ)} (Some (c ∷ G)) (Some []) → ⊥
some_set c G f = cc

-- places are the same by names, and go to the key's column of the output
joined : derived (join (up 1) (up 0)) 0 (by_hash 1 ∷ (by_hash 0 ∷ [])) ≡ by_hash 0
joined = refl

-- one side that is only a bag: no agree set
joined_bag : derived (join (up 1) (up 0)) 0 (by_hash 1 ∷ (bag_by_hash 0 ∷ [])) ≡ bag_by_hash 0
joined_bag = refl

-- the merged rows have the master's columns, the rejected ones those of their update
merged : (derived (merge (up 1 ∷ (up 0 ∷ []))) 0 (by_hash 1 ∷ (by_hash 0 ∷ [])) ≡ by_hash 1) × (derived (merge (up 1 ∷ (up 0 ∷ []))) 1 (by_hash 1 ∷ (by_hash 0 ∷ [])) ≡ by_hash 0)
merged = (refl, refl)

-- a bag that lies by the keys agrees in them once it is grouped; an agree set among the keys stays
grouped : (derived (group (up 1) true false) 0 (bag_by_hash 1 ∷ []) ≡ record { agree = Some (0 ∷ []); place = spot.Placed (Hash (0 ∷ [])); sort = [] })
    × (derived (group (up 1) false false) 0 (record { agree = Some []; place = spot.None; sort = [] } ∷ []) ≡ record { agree = Some []; place = spot.None; sort = up 0 })
grouped = (refl, refl)

-- the agree sets together with the common place's columns; and no common place
in_sequence : (derived funnel_sequence 0 (by_hash 0 ∷ (record { agree = Some (1 ∷ []); place = spot.Placed (Hash (0 ∷ [])); sort = [] } ∷ [])) ≡ record { agree = Some (0 ∷ (1 ∷ (0 ∷ []))); place = spot.Placed (Hash (0 ∷ [])); sort = [] })
    × (derived funnel_sequence 0 (by_hash 0 ∷ (by_hash 1 ∷ [])) ≡ record { agree = None; place = spot.None; sort = [] })
in_sequence = (refl, refl)

-- columns under new names, and a sort's prefix that passes
modified : derived (by_row (modify_rule (2 ∷ (0 ∷ []))).passes) 0 (record { agree = Some (0 ∷ []); place = spot.Placed (Hash (0 ∷ [])); sort = record { col = 2; desc = true } ∷ (record { col = 1; desc = false } ∷ up 0) } ∷ [])
    ≡ record { agree = Some (1 ∷ []); place = spot.Placed (Hash (1 ∷ [])); sort = record { col = 0; desc = true } ∷ [] }
modified = refl

-- a sort by other keys keeps the old ones behind them
resorted : sorted_state (Some (up 1)) (record { agree = None; place = spot.None; sort = record { col = 0; desc = true } ∷ (record { col = 1; desc = true } ∷ []) }) ≡ record { agree = None; place = spot.None; sort = record { col = 1; desc = false } ∷ (record { col = 0; desc = true } ∷ []) }
resorted = refl

stored : (derived (dsread 1 (Some (Hash (0 ∷ [])))) 0 [] ≡ solo) × (derived (dsread 3 (Some (Modulus 1))) 0 [] ≡ record { agree = Some (1 ∷ []); place = spot.Placed (Modulus 1); sort = [] })
stored = (refl, refl)

-- from one partition a hash keeps the sort, from many it doesn't; it adds its columns to the agree set
hashed : (routed_state false (route.Hash (1 ∷ [])) (record { agree = Some []; place = spot.Solo; sort = up 0 }) ≡ record { agree = Some (1 ∷ []); place = spot.Placed (Hash (1 ∷ [])); sort = up 0 })
    × (routed_state false (route.Hash (1 ∷ [])) (by_hash 0) ≡ record { agree = Some (0 ∷ (1 ∷ [])); place = spot.Placed (Hash (1 ∷ [])); sort = [] })
hashed = (refl, refl)

not_alone : routed_state false (route.Hash (1 ∷ [])) (by_hash 0) ≡ record { agree = Some (1 ∷ []); place = spot.Placed (Hash (1 ∷ [])); sort = [] } → ⊥
not_alone e = other_set 0 1 [] (ap (λ (s : State). s.agree) e)

-- in turn into one partition
taken_in_turn : routed_state true route.RoundRobin (by_hash 0) ≡ record { agree = Some (0 ∷ []); place = spot.Solo; sort = [] }
taken_in_turn = refl

-- an agree set that isn't the place's, regained by the sort; a bag filled, in a place; a set in order
refinings : (refined true 3 (record { agree = Some (0 ∷ (1 ∷ [])); place = spot.Placed (Hash (0 ∷ [])); sort = up 1 }) ≡ record { agree = Some (0 ∷ []); place = spot.Placed (Hash (0 ∷ [])); sort = up 1 })
    × (refined true 2 (record { agree = None; place = spot.Solo; sort = up 1 }) ≡ record { agree = Some (0 ∷ (1 ∷ [])); place = spot.Solo; sort = up 1 })
    × (refined true 3 (record { agree = Some (2 ∷ (0 ∷ (2 ∷ []))); place = spot.None; sort = [] }) ≡ record { agree = Some (0 ∷ (2 ∷ [])); place = spot.None; sort = [] })
    × (refined true 2 (record { agree = Some (0 ∷ (1 ∷ [])); place = spot.Solo; sort = record { col = 1; desc = false } ∷ up 0 }) ≡ record { agree = Some []; place = spot.Solo; sort = record { col = 1; desc = false } ∷ up 0 })
refinings = (refl, refl, refl, refl)

-- without regain an agree set stays
plainly : refined false 3 (record { agree = Some (0 ∷ (1 ∷ [])); place = spot.Placed (Hash (0 ∷ [])); sort = up 1 }) ≡ record { agree = Some (0 ∷ (1 ∷ [])); place = spot.Placed (Hash (0 ∷ [])); sort = up 1 }
plainly = refl

-- without the columns of the place in the sort nothing is regained
not_regained : refined true 2 (record { agree = Some (1 ∷ []); place = spot.Solo; sort = up 0 }) ≡ record { agree = Some []; place = spot.Solo; sort = up 0 } → ⊥
not_regained e = some_set 1 [] (ap (λ (s : State). s.agree) e)

-- the parts that are missed, in order
remdup_misses : missed (remdup (up 0)) (record { agree = None; place = spot.None; sort = up 1 } ∷ []) 0 ≡ Agree (up 0) ∷ (Sorted (up 0) ∷ [])
remdup_misses = refl

remdup_accepts : missed (remdup (up 0)) (by_hash 0 ∷ []) 0 ≡ []
remdup_accepts = refl

-- rows that are only colocated
not_by_place : missed (remdup (up 0)) (bag_by_hash 0 ∷ []) 0 ≡ [] → ⊥
not_by_place e = cc

-- the other input of a join lies where the first does, by names
join_misses : (missed (join (up 1) (up 0)) (by_hash 1 ∷ (by_hash 0 ∷ [])) 1 ≡ []) × (missed (join (up 1) (up 0)) (by_hash 1 ∷ (solo ∷ [])) 1 ≡ SamePlace (spot.Placed (Hash (0 ∷ []))) ∷ (Sorted (up 0) ∷ []))
join_misses = (refl, refl)

-- a sort in the other direction isn't the one that is needed
directions : missed (funnel_sort (up 0)) (record { agree = None; place = spot.None; sort = record { col = 0; desc = true } ∷ [] } ∷ []) 0 ≡ Sorted (up 0) ∷ []
directions = refl

entire : missed (tsort (up 0)) (record { agree = Some []; place = spot.Entire; sort = [] } ∷ []) 0 ≡ NotEntire ∷ []
entire = refl

references : (missed (lookup (up 1) (up 0) (λ q. only [])) (by_hash 1 ∷ (by_hash 0 ∷ [])) 1 ≡ []) × (missed (lookup (up 1) (up 0) (λ q. only [])) (by_hash 0 ∷ (by_hash 0 ∷ [])) 1 ≡ Reference (up 0) ∷ [])
references = (refl, refl)

merge_routes : route_missed (route.Merge (up 0)) (by_hash 1) ≡ MergeSort (up 0) ∷ []
merge_routes = refl
