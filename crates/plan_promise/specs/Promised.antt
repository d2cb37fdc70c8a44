-- What is promised of a legal execution of a flow's plan.
use Rattle.std.specs.Prelude.{◌≡◌, ℕ, ◌<◌, Bool, List, []}
use Rattle.std.specs.List.{AllByRecursion}
use Rattle.streams.specs.Core.{Player, Lane, Parcel, Event, core as core_of, AreFiles, IsFinished}
use Rattle.streams.specs.Core as core
use Rattle.streams.specs.Batches.{Packet, BatchFiles, BatchFinished, batch_core, batch_owed}
use Rattle.streams.specs.Plans.{IsLegal, IsLooseRun, shape_of, inner}
use Rattle.streams.specs.Streams.{Item, Out, rows_of, emits}
use Rattle.streams.specs.Wiring.{Plan, net_of}
use Rattle.op_base.specs.declared.fault.Fault.{Fault}
use Rattle.op_base.specs.Columns.{Row}
use Rattle.flow_graph.specs.declared.flow.Flow.{Flow}
use Rattle.flow_graph.specs.declared.parts.Stored.{Stored}
use Rattle.flow_graph.specs.declared.route.Choice.{Choice}
use Rattle.flow_graph.specs.declared.state.State.{State}
use Rattle.flow_graph.specs.declared.flow.Mark.TheVariants as mark
use Rattle.flow_score.specs.Scores.{JoinsEqual, choice_of, degree_at}
use Rattle.flow_graph.specs.Charts.{Chart, links_into, op_at}
use Rattle.flow_graph.specs.Operators.{Op}
use Rattle.flow_graph.specs.Runs as runs
use Rattle.flow_graph.specs.Runs.{FitsDegree}
use Rattle.flow_rules.specs.Verdicts.{nodes_of}
use Rattle.flow_links.specs.Outputs.{LinksOutputs}
use Rattle.flow_sound.specs.Promise.{ShapedFlow}
use Rattle.flow_choices.specs.Choices.{AreChoices, AcceptedBy}
use Rattle.flow_choices.specs.Kept.{KeepsMeaningBy}
use Rattle.core_laws.specs.Driven.{plan_shape}
use Rattle.core_laws.specs.Untold.{AreRead, Stands}
use Rattle.flow_plan.specs.Data.{Datum}
use Rattle.flow_plan.specs.Planned.{op_count, plan_of, ChoicesFit}
use Rattle.plan_sound.specs.FlowRuns.{file_lane, lists_of}
use Rattle.plan_sound.specs.Working.{IsFileOf}
use Rattle.plan_promise.specs.KindStreams.{stream_at, SinksAre}

-- the plan of a flow by the choices for its links
abbrev pub chart_plan : Chart → List Choice → (ℕ → ℕ) → (ℕ → Row → List Fault) → Plan Datum Fault
chart_plan c choices degree unwritable = plan_of c (choice_of choices) degree (stream_at c unwritable)

-- A flow that is accepted with these choices, what it means, and what is asked of its degrees and files.
pub record Played (regains : Bool) (flow : Flow) (dict : List Stored) (c : Chart) (states : List State) (choices : List Choice) (ops : ℕ → Op) (whole : ℕ → List Row) (degree : ℕ → ℕ) (unwritable : ℕ → Row → List Fault) (file : Lane → List Datum) : Type 0 where
  pub shaped : ShapedFlow flow dict c ops
  pub accepted : AcceptedBy regains c states choices
  pub means : AllByRecursion (runs.Means whole) (nodes_of c ops)
  pub outs : LinksOutputs c
  pub sinks : SinksAre c ops unwritable
  pub fit : ChoicesFit c (choice_of choices) degree
  pub degrees : (o : ℕ) → o < op_count c → FitsDegree (ops o) (degree o)
  pub files : (o p : ℕ) → o < op_count c → p < degree o → links_into c o ≡ [] → IsFileOf (ops o) p (file (file_lane c o p))

-- A legal execution of its plan keeps what it means.
abbrev pub ExecutionsKeep : Type 0
ExecutionsKeep = (regains : Bool) (flow : Flow) (dict : List Stored) (c : Chart) (states : List State) (choices : List Choice) (ops : ℕ → Op) (whole : ℕ → List Row) (degree : ℕ → ℕ) (unwritable : ℕ → Row → List Fault) (file lane : Lane → List Datum) (taken : Player → ℕ → List Datum) (made : Player → List (Out Datum Fault)) →
    Played regains flow dict c states choices ops whole degree unwritable file → IsLegal (net_of (chart_plan c choices degree unwritable)) file lane taken made → KeepsMeaningBy c states choices ops whole (lists_of c degree taken made)

-- So does a finished state of the step core, whatever its events were and however much room its queues have.
abbrev pub FinishedKeeps : Type 0
FinishedKeeps = (regains : Bool) (flow : Flow) (dict : List Stored) (c : Chart) (states : List State) (choices : List Choice) (ops : ℕ → Op) (whole : ℕ → List Row) (degree : ℕ → ℕ) (unwritable : ℕ → Row → List Fault) (files : Lane → List (Parcel Datum)) (capacity : ℕ) (events : List Event) →
    let net = net_of (chart_plan c choices degree unwritable) in
    let s = core_of (shape_of net) files capacity events in
    (full : AreFiles (shape_of net) files) → Played regains flow dict c states choices ops whole degree unwritable full.lists → IsFinished (shape_of net) s →
    KeepsMeaningBy c states choices ops whole (lists_of c degree (λ p i. rows_of i (inner net p (s.feeds p))) (λ p. emits (net.operator p) (inner net p (s.feeds p))))

-- The same where files tell nothing of what they still have: what was read of a file is the file.
abbrev pub UntoldKeeps : Type 0
UntoldKeeps = (regains : Bool) (flow : Flow) (dict : List Stored) (c : Chart) (states : List State) (choices : List Choice) (ops : ℕ → Op) (whole : ℕ → List Row) (degree : ℕ → ℕ) (unwritable : ℕ → Row → List Fault) (read : Lane → List (Parcel Datum)) (s : core.State Datum) →
    let plan = chart_plan c choices degree unwritable in
    let net = net_of plan in
    (are : AreRead plan read) → Stands (plan_shape plan) read s → IsFinished (plan_shape plan) s → Played regains flow dict c states choices ops whole degree unwritable (λ k. are.lists (net.into k)) →
    KeepsMeaningBy c states choices ops whole (lists_of c degree (λ p i. rows_of i (inner net p (s.feeds p))) (λ p. emits (net.operator p) (inner net p (s.feeds p))))

-- So does a run that is over, by whatever it was run: each player was fed what it wanted of its queues, to their ends; what was given to each lane is what its producer owes, or a file; and it was fed in that order.
abbrev pub RunsKeep : Type 0
RunsKeep = (regains : Bool) (flow : Flow) (dict : List Stored) (c : Chart) (states : List State) (choices : List Choice) (ops : ℕ → Op) (whole : ℕ → List Row) (degree : ℕ → ℕ) (unwritable : ℕ → Row → List Fault) (file : Lane → List Datum) (feeds : Player → List (Parcel Datum)) (given : Lane → List (Item Datum)) →
    let net = net_of (chart_plan c choices degree unwritable) in
    IsLooseRun net file feeds given → Played regains flow dict c states choices ops whole degree unwritable file →
    KeepsMeaningBy c states choices ops whole (lists_of c degree (λ p i. rows_of i (inner net p (feeds p))) (λ p. emits (net.operator p) (inner net p (feeds p))))

-- And a finished state of the core with batches, whatever their size.
abbrev pub BatchesKeep : Type 0
BatchesKeep = (regains : Bool) (flow : Flow) (dict : List Stored) (c : Chart) (states : List State) (choices : List Choice) (ops : ℕ → Op) (whole : ℕ → List Row) (degree : ℕ → ℕ) (unwritable : ℕ → Row → List Fault) (size : Datum → ℕ) (limit : ℕ) (files : Lane → List (Packet Datum)) (capacity : ℕ) (events : List Event) →
    let net = net_of (chart_plan c choices degree unwritable) in
    let due = batch_owed net size limit in
    let s = batch_core (shape_of net) due files capacity events in
    (full : BatchFiles (shape_of net) files) → Played regains flow dict c states choices ops whole degree unwritable full.lists → BatchFinished (shape_of net) due s →
    KeepsMeaningBy c states choices ops whole (lists_of c degree (λ p i. rows_of i (inner net p (s.feeds p))) (λ p. emits (net.operator p) (inner net p (s.feeds p))))

-- On some nodes, in a flow without data sets whose `same` joins equal degrees, the degrees are such as operators and routes ask.
abbrev pub NodesFit : Type 0
NodesFit = (c : Chart) (choices : List Choice) (nodes : ℕ) → AreChoices c choices → 0 < nodes → ((o : ℕ) → o < op_count c → (op_at c o).mark ≡ mark.Stored → ⊥) → JoinsEqual c choices nodes → ChoicesFit c (choice_of choices) (degree_at c nodes)
