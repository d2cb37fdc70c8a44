-- From the shape, the verdict and a legal run of a flow to what is promised of it.
use Rattle.std.specs.Prelude.{◌≡◌, ◌<◌, ℕ, Bool, List, length, Option}
use Rattle.std.specs.List.{AllByRecursion}
use Rattle.std.specs.List.Sorted.{IsPermutation}
use Rattle.ds_schema.specs.declared.key.Key.{Key}
use Rattle.op_base.specs.Columns.{Row}
use Rattle.op_base.specs.Lists.{joined}
use Rattle.flow_graph.specs.declared.flow.Flow.{Flow}
use Rattle.flow_graph.specs.declared.parts.Stored.{Stored}
use Rattle.flow_graph.specs.declared.route.Choice.{Choice}
use Rattle.flow_graph.specs.declared.state.State.{State}
use Rattle.flow_graph.specs.Charts.{Chart, op_at, width_at}
use Rattle.flow_graph.specs.FlowShape.{IsShape}
use Rattle.flow_graph.specs.Grades.{grade, Meets}
use Rattle.flow_graph.specs.Operators.{Op}
use Rattle.flow_graph.specs.Runs.{FitsShape, Lists, Means, Runs, meant_faults, run_faults}
use Rattle.flow_rules.specs.Exports.{IsExport, input_of}
use Rattle.flow_rules.specs.declared.verdict.Verdict.TheVariants.{Accepted}
use Rattle.flow_rules.specs.Soundness.{Keeps}
use Rattle.flow_derive.specs.LinkStates.{choice_at, state_at}
use Rattle.flow_rules.specs.Verdicts.{FormsAre, IsVerdictBy, nodes_of}
use Rattle.flow_shape.specs.Refusals.{IsShapeOf}
use Rattle.flow_sound.specs.Kinds.{AreOfKinds}

-- A shaped flow has a meaning, whatever its operators are.
abbrev pub HasMeaning : Type 0
HasMeaning = (c : Chart) (ops : ℕ → Op) → IsShape c → (whole : ℕ → List Row) × AllByRecursion (Means whole) (nodes_of c ops)

-- It has one only.
abbrev pub HasOneMeaning : Type 0
HasOneMeaning = (c : Chart) (ops : ℕ → Op) (v w : ℕ → List Row) → IsShape c → AllByRecursion (Means v) (nodes_of c ops) → AllByRecursion (Means w) (nodes_of c ops) → (l : ℕ) → l < length c.flow.links → v l ≡ w l

-- a flow with its shape, and operators of the kinds that it names
pub record ShapedFlow (flow : Flow) (dict : List Stored) (c : Chart) (ops : ℕ → Op) : Type 0 where
  pub shape : IsShape c
  pub shape_of : IsShapeOf flow dict c
  pub kinds : AreOfKinds c ops

-- Its operators are such as the checker sees them.
abbrev pub FormsFit : Type 0
FormsFit = (flow : Flow) (dict : List Stored) (c : Chart) (ops : ℕ → Op) → ShapedFlow flow dict c ops → FormsAre c ops

-- They have the inputs and the columns that the law of flows asks.
abbrev pub OperatorsFit : Type 0
OperatorsFit = (flow : Flow) (dict : List Stored) (c : Chart) (ops : ℕ → Op) → ShapedFlow flow dict c ops → AllByRecursion (FitsShape (width_at c)) (nodes_of c ops)

-- the sort that is inserted on a link, if there is one
abbrev pub sort_at : Chart → ℕ → Option (List Key)
sort_at c l = (choice_at c l).sort

-- a flow that is accepted, by refining with regain or without, what it means, and a legal run of it
pub record AcceptedRun (regains : Bool) (flow : Flow) (dict : List Stored) (c : Chart) (states : List State) (choices : List Choice) (ops : ℕ → Op) (whole : ℕ → List Row) (run : Lists) : Type 0 where
  pub shaped : ShapedFlow flow dict c ops
  pub verdict : IsVerdictBy regains c (Accepted states choices)
  pub means : AllByRecursion (Means whole) (nodes_of c ops)
  pub legal : AllByRecursion (Runs (sort_at c) run) (nodes_of c ops)

-- On each link the state holds and as many rows were put as the meaning has, the faults are the meaning's, and each export has of the meaning what the grade of its link says.
pub record KeepsMeaning (c : Chart) (states : List State) (ops : ℕ → Op) (whole : ℕ → List Row) (run : Lists) : Type 0 where
  pub links : (l : ℕ) → l < length c.flow.links → Keeps (width_at c) (sort_at c) (state_at states) whole run l
  pub counts : (l : ℕ) → l < length c.flow.links → length (joined (run.sent l)) ≡ length (whole l)
  pub faults : IsPermutation (run_faults run (nodes_of c ops)) (meant_faults whole (nodes_of c ops))
  pub sinks : (o : ℕ) → o < length c.flow.ops → IsExport (op_at c o).kind → Meets (grade (width_at c (input_of c o)) (state_at states (input_of c o))) (run.got (input_of c o)) (whole (input_of c o))

abbrev pub AcceptedRunsKeep : Type 0
AcceptedRunsKeep = (regains : Bool) (flow : Flow) (dict : List Stored) (c : Chart) (states : List State) (choices : List Choice) (ops : ℕ → Op) (whole : ℕ → List Row) (run : Lists) → AcceptedRun regains flow dict c states choices ops whole run → KeepsMeaning c states ops whole run
