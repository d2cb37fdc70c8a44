-- The step core of a flow over its files.
use Rattle.std.specs.Prelude.{◌≡◌, ℕ, ◌<◌, Bool, true, ◌⊎◌, List}
use Rattle.streams.specs.Streams.{rows_of, emits}
use Rattle.streams.specs.Core as core
use Rattle.streams.specs.Core.{Shape, Event, is_enabled, IsFinished}
use Rattle.streams.specs.Plans.{inner}
use Rattle.streams.specs.Wiring.{Plan, net_of}
use Rattle.core_laws.specs.Driven.{plan_shape}
use Rattle.core_laws.specs.Files.{files_of}
use Rattle.ds_port.specs.FileMap.{FileMap}
use Rattle.op_base.specs.declared.fault.Fault.{Fault}
use Rattle.op_base.specs.Columns.{Row}
use Rattle.flow_graph.specs.declared.flow.Flow.{Flow}
use Rattle.flow_graph.specs.declared.parts.Stored.{Stored}
use Rattle.flow_graph.specs.declared.route.Choice.{Choice}
use Rattle.flow_graph.specs.declared.state.State.{State}
use Rattle.flow_graph.specs.Charts.{Chart}
use Rattle.flow_graph.specs.Operators.{Op}
use Rattle.flow_graph.specs.Runs.{Lists}
use Rattle.flow_score.specs.Scores.{degree_at}
use Rattle.flow_sound.specs.Promise.{KeepsMeaning}
use Rattle.flow_choices.specs.Kept.{KeepsMeaningBy}
use Rattle.flow_plan.specs.Data.{Datum}
use Rattle.plan_sound.specs.FlowRuns.{lists_of}
use Rattle.plan_promise.specs.Promised.{chart_plan}
use Rattle.plan_files.specs.PlanFiles.{source_files, unwritable_at, ChosenFlow, AcceptedFlow}

-- the plan of a flow by its choices on some nodes
abbrev pub plan_on : Chart → List Choice → ℕ → Plan Datum Fault
plan_on c choices nodes = chart_plan c choices (degree_at c nodes) (unwritable_at c)

abbrev pub shape_on : Chart → List Choice → ℕ → Shape Datum
shape_on c choices nodes = plan_shape (plan_on c choices nodes)

-- the core after some events: at first the files of the sources are in their queues, and nothing else is anywhere
abbrev pub core_on : Chart → List Choice → ℕ → (ℕ → Op) → ℕ → List Event → core.State Datum
core_on c choices nodes ops capacity events = core.core (shape_on c choices nodes) (files_of (plan_on c choices nodes) (source_files c ops)) capacity events

-- the lists of a state, by what its players were fed
abbrev pub lists_in : Chart → List Choice → ℕ → core.State Datum → Lists
lists_in c choices nodes s =
    let net = net_of (plan_on c choices nodes) in
    lists_of c (degree_at c nodes) (λ p i. rows_of i (inner net p (s.feeds p))) (λ p. emits (net.operator p) (inner net p (s.feeds p)))

-- it isn't stuck until it is finished, and then it keeps what the flow means
pub record PlaysRight (c : Chart) (states : List State) (choices : List Choice) (nodes : ℕ) (ops : ℕ → Op) (whole : ℕ → List Row) (capacity : ℕ) (events : List Event) : Type 0 where
  pub goes_on : IsFinished (shape_on c choices nodes) (core_on c choices nodes ops capacity events) ⊎ ((event : Event) × (is_enabled (shape_on c choices nodes) capacity (core_on c choices nodes ops capacity events) event ≡ true))
  pub keeps : IsFinished (shape_on c choices nodes) (core_on c choices nodes ops capacity events) → KeepsMeaningBy c states choices ops whole (lists_in c choices nodes (core_on c choices nodes ops capacity events))

-- So does each flow over its files by choices with which it is accepted, on any nodes that seat it, whatever the capacity of its queues, after any events.
abbrev pub FlowsPlayRight : Type 0
FlowsPlayRight = (regains : Bool) (files : FileMap) (flow : Flow) (dict : List Stored) (c : Chart) (states : List State) (choices : List Choice) (nodes : ℕ) (ops : ℕ → Op) (whole : ℕ → List Row) → ChosenFlow regains files flow dict c states choices nodes ops whole →
    (capacity : ℕ) → 0 < capacity → (events : List Event) → PlaysRight c states choices nodes ops whole capacity events

-- An accepted flow does by the choices of its verdict, and keeps then what its verdict promises.
abbrev pub AcceptedFlowsPlayRight : Type 0
AcceptedFlowsPlayRight = (regains : Bool) (files : FileMap) (flow : Flow) (dict : List Stored) (c : Chart) (states : List State) (choices : List Choice) (nodes : ℕ) (ops : ℕ → Op) (whole : ℕ → List Row) → AcceptedFlow regains files flow dict c states choices nodes ops whole →
    (capacity : ℕ) → 0 < capacity → (events : List Event) →
    PlaysRight c states choices nodes ops whole capacity events × (IsFinished (shape_on c choices nodes) (core_on c choices nodes ops capacity events) → KeepsMeaning c states ops whole (lists_in c choices nodes (core_on c choices nodes ops capacity events)))
