-- The laws of link states: each operator, route, sort and refining keeps what a state says, and so does a whole flow.
use Rattle.std.specs.Prelude.{◌≡◌, ◌≢◌, ℕ, ◌<◌, Bool, List, [], ◌∷◌, map, length, Option}
use Rattle.std.specs.List.{AllByRecursion, range_with_len}
use Rattle.std.specs.List.Sorted.{IsPermutation}
use Rattle.ds_schema.specs.declared.key.Key.{Key}
use Rattle.op_base.specs.Columns.{Row}
use Rattle.op_base.specs.Lists.{joined}
use Rattle.op_base.specs.RowOperators.{RowRule}
use Rattle.flow_graph.specs.declared.route.Route.{Route}
use Rattle.flow_graph.specs.declared.state.State.{State}
use Rattle.flow_graph.specs.declared.state.Spot.TheVariants as spot
use Rattle.flow_graph.specs.Forms.{form}
use Rattle.flow_graph.specs.Grades.{grade, Meets}
use Rattle.flow_graph.specs.Operators.{Op, by_row, result, faults}
use Rattle.flow_graph.specs.Parts.{Agree, Bag}
use Rattle.flow_graph.specs.Runs.{Out, Node, Lists, Means, Gives, Arrives, FitsDegree, Forward, InsertedFrom, arranged_if, faults_on, slice, run_faults, meant_faults}
use Rattle.flow_graph.specs.Shapes.{IsShaped, HasPort, FitsPorts, KeysDistinct, Wide, AllWide, SpotFits}
use Rattle.flow_graph.specs.States.{Holds, AllHold}
use Rattle.flow_derive.specs.Derive.{derived, refined, regain, routed_state, sorted_state}
use Rattle.flow_rules.specs.Needs.{missed, route_missed}
use Rattle.flow_rules.specs.Soundness.{Sound, Keeps}

-- an operator on a number of partitions, whose inputs miss nothing of their needs and are as their states say
pub record Stands (op : Op) (ins : List ℕ) (outs : ℕ → ℕ) (states : List State) (degree : ℕ) (inputs : List (List (List Row))) (wholes : List (List Row)) : Type 0 where
  pub shaped : IsShaped op ins outs
  pub ports : FitsPorts op (length states)
  pub distinct : KeysDistinct op
  pub accepted : AllByRecursion (λ i. missed (form op) states i ≡ []) (range_with_len 0 (length states))
  pub degree_fits : FitsDegree op degree
  pub some : 0 < degree
  pub degrees : AllByRecursion (λ (parts : List (List Row)). length parts ≡ degree) inputs
  pub wide : AllWide ins wholes
  pub hold : AllHold states inputs wholes

-- the state of each output holds of what the partitions put there
abbrev pub OperatorHolds : Op → Type 0
OperatorHolds op = (ins : List ℕ) (outs : ℕ → ℕ) (states : List State) (degree : ℕ) (inputs : List (List (List Row))) (wholes : List (List Row)) → Stands op ins outs states degree inputs wholes →
    (q : ℕ) (sent : List (List Row)) → HasPort op q → Gives op q inputs degree sent → Holds (derived (form op) q states) sent (result op q wholes)

-- the faults of the partitions are those of the whole
abbrev pub FaultsAgree : Type 0
FaultsAgree = (op : Op) (ins : List ℕ) (outs : ℕ → ℕ) (states : List State) (degree : ℕ) (inputs : List (List (List Row))) (wholes : List (List Row)) → Stands op ins outs states degree inputs wholes →
    IsPermutation (joined (map (λ p. faults_on op p (slice p inputs)) (range_with_len 0 degree))) (faults op wholes)

-- a route of a state that isn't entire keeps what the state says
abbrev pub RouteHolds : Bool → Route → Type 0
RouteHolds seq r = (s : State) (parts got : List (List Row)) (whole : List Row) → route_missed r s ≡ [] → s.place ≢ spot.Entire → 0 < length got → Holds s parts whole → Arrives seq r parts got → Holds (routed_state seq r s) got whole

-- an inserted sort
abbrev pub SortHolds : Type 0
SortHolds = (sort : Option (List Key)) (s : State) (parts : List (List Row)) (whole : List Row) → Holds s parts whole → Holds (sorted_state sort s) (map (arranged_if sort) parts) (arranged_if sort whole)

-- regain, whatever came before
abbrev pub RegainHolds : Type 0
RegainHolds = (s : State) (parts : List (List Row)) (whole : List Row) → 0 < length parts → Holds s parts whole → Holds (regain s) parts whole

-- both refining rules, on rows of one width
abbrev pub RefiningHolds : Type 0
RefiningHolds = (regains : Bool) (width : ℕ) (s : State) (parts : List (List Row)) (whole : List Row) → 0 < length parts → AllByRecursion (Wide width) whole → SpotFits width s.place → Holds s parts whole → Holds (refined regains width s) parts whole

-- where some columns agree, the partitions hold the rows of the whole; where no columns do, they are the whole
abbrev pub AgreementIsWhole : Type 0
AgreementIsWhole = (G : List ℕ) (parts : List (List Row)) (whole : List Row) → Agree G parts whole → Bag parts whole

abbrev pub ExactIsWhole : Type 0
ExactIsWhole = (parts : List (List Row)) (whole : List Row) → Agree [] parts whole → joined parts ≡ whole

-- In a legal run of an accepted flow each link keeps what its state says, and each operator has the faults that it has on the whole.
abbrev pub FlowsKeep : Type 0
FlowsKeep = (regains : Bool) (nodes : List Node) (width : ℕ → ℕ) (sorts : ℕ → Option (List Key)) (state : ℕ → State) (whole : ℕ → List Row) (run : Lists) → Sound regains nodes width sorts state whole run →
    AllByRecursion (λ (n : Node). AllByRecursion (λ (o : Out). Keeps width sorts state whole run o.link) n.outs × IsPermutation (joined (run.failed n.number)) (faults n.op (map whole n.ins))) nodes

abbrev pub FlowFaultsAgree : Type 0
FlowFaultsAgree = (regains : Bool) (nodes : List Node) (width : ℕ → ℕ) (sorts : ℕ → Option (List Key)) (state : ℕ → State) (whole : ℕ → List Row) (run : Lists) → Sound regains nodes width sorts state whole run →
    IsPermutation (run_faults run nodes) (meant_faults whole nodes)

-- A sink that misses nothing gets what the grade of its link says of the meaning itself: no sort stands before it.
abbrev pub SinksMeet : Type 0
SinksMeet = (rule : RowRule) (width : ℕ → ℕ) (sorts : ℕ → Option (List Key)) (state : ℕ → State) (whole : ℕ → List Row) (run : Lists) (l : ℕ) →
    InsertedFrom sorts (by_row rule) 0 (l ∷ []) → missed (form (by_row rule)) (state l ∷ []) 0 ≡ [] → Keeps width sorts state whole run l → Meets (grade (width l) (state l)) (run.got l) (whole l)

-- A flow has one meaning.
abbrev pub OneMeaning : Type 0
OneMeaning = (nodes : List Node) (v w : ℕ → List Row) → Forward [] nodes → AllByRecursion (Means v) nodes → AllByRecursion (Means w) nodes → AllByRecursion (λ (n : Node). AllByRecursion (λ (o : Out). v o.link ≡ w o.link) n.outs) nodes
