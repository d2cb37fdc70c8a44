-- Rules that would be wrong, each as the law that it would need.
use Rattle.std.specs.Prelude.{◌≡◌, ◌≢◌, ℕ, ◌<◌, Bool, true, false, if◌then◌else◌, List, [], ◌∷◌, map, length, Option, Some, None}
use Rattle.std.specs.List.{range_with_len}
use Rattle.ds_schema.specs.declared.key.Key.{Key}
use Rattle.op_base.specs.Columns.{Row, lies}
use Rattle.op_base.specs.Meanings.{Join}
use Rattle.flow_graph.specs.declared.state.State.{State}
use Rattle.flow_graph.specs.declared.state.Spot.TheVariants as spot
use Rattle.ds_place.specs.declared.place.Place.TheVariants as place
use Rattle.flow_graph.specs.declared.route.Route.TheVariants as route
use Rattle.flow_graph.specs.Forms.{form}
use Rattle.flow_graph.specs.Operators.{remdup, join, result}
use Rattle.flow_graph.specs.Runs.{Arrives, slice}
use Rattle.flow_graph.specs.States.{Holds}
use Rattle.flow_rules.specs.declared.need.Need.TheVariants.{NotEntire, Placed, Colocated, Sorted}
use Rattle.flow_derive.specs.Derive.{derived, solo_sort, place_columns}
use Rattle.flow_rules.specs.Needs.{meets}

abbrev pub meets_alone : State → Rattle.flow_rules.specs.declared.need.Need.Need → Type 0
meets_alone s part = meets spot.None s part ≡ true

-- remdup needs only that the rows of each key are colocated
abbrev pub RemdupWhereColocated : Type 0
RemdupWhereColocated = (last : Bool) (keys : List Key) (s : State) (parts : List (List Row)) (whole : List Row) → meets_alone s NotEntire → meets_alone s (Colocated keys) → meets_alone s (Sorted keys) →
    Holds s parts whole → Holds (derived (form (remdup last keys)) 0 (s ∷ [])) (map (λ rows. result (remdup last keys) 0 (rows ∷ [])) parts) (result (remdup last keys) 0 (whole ∷ []))

-- a repartition from many agrees in its own columns alone
abbrev pub RepartitionAgreesAlone : Type 0
RepartitionAgreesAlone = (G K : List ℕ) (s : State) (parts got : List (List Row)) (whole : List Row) → s.agree ≡ Some G → s.place ≢ spot.Entire → 0 < length got →
    Holds s parts whole → Arrives false (route.Hash K) parts got → Holds (record { agree = Some K; place = spot.Placed (place.Hash K); sort = solo_sort s.place s.sort }) got whole

-- rows that come in any order from many partitions keep their sort
abbrev pub AnyKeepsSort : Type 0
AnyKeepsSort = (s : State) (parts got : List (List Row)) (whole : List Row) → s.place ≢ spot.Entire → 0 < length got →
    Holds s parts whole → Arrives true route.Any parts got → Holds (record { agree = s.agree; place = spot.Solo; sort = s.sort }) got whole

-- each input of a join may lie by its own columns among the keys
abbrev pub JoinsLieApart : Type 0
JoinsLieApart = (j : Join) (s t : State) (A B : List (List Row)) (SA SB : List Row) → meets_alone s NotEntire → meets_alone s (Placed j.left_keys) → meets_alone s (Sorted j.left_keys) →
    meets_alone t NotEntire → meets_alone t (Placed j.right_keys) → meets_alone t (Sorted j.right_keys) → length A ≡ length B → Holds s A SA → Holds t B SB →
    Holds (derived (form (join j)) 0 (s ∷ (t ∷ []))) (map (λ p. result (join j) 0 (slice p (A ∷ (B ∷ [])))) (range_with_len 0 (length A))) (result (join j) 0 (SA ∷ (SB ∷ [])))

-- an agree set that holds the columns of the place becomes these, whatever the sort
abbrev pub grown_set : Option (List ℕ) → List ℕ → List ℕ
grown_set None G = G
grown_set (Some C) G = if lies C G then C else G

abbrev pub RegainWithoutSort : Type 0
RegainWithoutSort = (G : List ℕ) (s : State) (parts : List (List Row)) (whole : List Row) → s.agree ≡ Some G → 0 < length parts →
    Holds s parts whole → Holds (record { agree = Some (grown_set (place_columns s.place) G); place = s.place; sort = s.sort }) parts whole
