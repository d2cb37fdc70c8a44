-- What a link's state says of its partitions and its whole list.
use Rattle.std.specs.Prelude.{◌≡◌, ℕ, List, [], ◌∷◌, length, ⊤, Option, Some, None}
use Rattle.std.specs.List.{AllByRecursion}
use Rattle.op_base.specs.Columns.{Row}
use Rattle.flow_graph.specs.declared.state.State.{State}
use Rattle.flow_graph.specs.declared.state.Spot.{Spot}
use Rattle.flow_graph.specs.declared.state.Spot.TheVariants as spot
use Rattle.flow_graph.specs.Parts.{Agree, Bag, Placed, Sorted}

-- agreement in the agree set, where there is one
abbrev pub AgreeIf : Option (List ℕ) → List (List Row) → List Row → Type 0
AgreeIf None parts whole = ⊤
AgreeIf (Some columns) parts whole = Agree columns parts whole

-- what a state says beside its place
pub record Common (state : State) (parts : List (List Row)) (whole : List Row) : Type 0 where
  pub bag : Bag parts whole
  pub agree : AgreeIf state.agree parts whole
  pub sorted : Sorted state.sort parts whole

-- one partition where the place is solo; placed rows where it is hash or modulus
abbrev pub LiesAt : Spot → List (List Row) → Type 0
LiesAt spot.Solo parts = length parts ≡ 1
LiesAt (spot.Placed place) parts = Placed place parts
LiesAt spot.Entire parts = ⊤
LiesAt spot.None parts = ⊤

-- where the place is entire, each partition by itself is as if it were the only one
abbrev pub HoldsIn : Spot → State → List (List Row) → List Row → Type 0
HoldsIn spot.Solo state parts whole = Common state parts whole × LiesAt spot.Solo parts
HoldsIn (spot.Placed place) state parts whole = Common state parts whole × LiesAt (spot.Placed place) parts
HoldsIn spot.Entire state parts whole = AllByRecursion (λ rows. Common state (rows ∷ []) whole) parts
HoldsIn spot.None state parts whole = Common state parts whole × LiesAt spot.None parts

abbrev pub Holds : State → List (List Row) → List Row → Type 0
Holds state parts whole = HoldsIn state.place state parts whole

-- the states of several links hold
abbrev pub AllHold : List State → List (List (List Row)) → List (List Row) → Type 0
AllHold [] [] [] = ⊤
AllHold (s ∷ states) (parts ∷ inputs) (whole ∷ wholes) = Holds s parts whole × AllHold states inputs wholes
AllHold states inputs wholes = ⊥
