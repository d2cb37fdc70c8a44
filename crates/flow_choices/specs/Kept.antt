-- Legal runs by such choices, and what is promised of them.
use Rattle.std.specs.Prelude.{◌≡◌, ℕ, ◌<◌, Bool, List, length, map}
use Rattle.std.specs.List.{AllByRecursion}
use Rattle.std.specs.List.Sorted.{IsPermutation}
use Rattle.op_base.specs.Columns.{Row}
use Rattle.op_base.specs.Lists.{joined}
use Rattle.flow_graph.specs.declared.flow.Flow.{Flow}
use Rattle.flow_graph.specs.declared.parts.Stored.{Stored}
use Rattle.flow_graph.specs.declared.route.Choice.{Choice}
use Rattle.flow_graph.specs.declared.state.State.{State}
use Rattle.flow_graph.specs.Charts.{Chart, all_links, op_at, width_at}
use Rattle.flow_graph.specs.FlowShape.{IsShape}
use Rattle.flow_graph.specs.Grades.{grade, Meets}
use Rattle.flow_graph.specs.Operators.{Op}
use Rattle.flow_graph.specs.Runs.{Lists, Means, Runs, meant_faults, run_faults}
use Rattle.flow_derive.specs.LinkStates.{choice_at, state_at}
use Rattle.flow_rules.specs.Exports.{IsExport, input_of}
use Rattle.flow_rules.specs.Soundness.{Keeps}
use Rattle.flow_rules.specs.Verdicts.{nodes_of}
use Rattle.flow_score.specs.Scores.{choice_of}
use Rattle.flow_sound.specs.Promise.{AcceptedRun, KeepsMeaning, ShapedFlow}
use Rattle.flow_plan.specs.Planned.{nodes_by}
use Rattle.flow_choices.specs.Choices.{sort_by, AcceptedBy}

-- a flow that is accepted with these choices, what it means, in which no choice takes part, and a legal run by them
pub record AcceptedRunBy (regains : Bool) (flow : Flow) (dict : List Stored) (c : Chart) (states : List State) (choices : List Choice) (ops : ℕ → Op) (whole : ℕ → List Row) (run : Lists) : Type 0 where
  pub shaped : ShapedFlow flow dict c ops
  pub accepted : AcceptedBy regains c states choices
  pub means : AllByRecursion (Means whole) (nodes_of c ops)
  pub legal : AllByRecursion (Runs (sort_by choices) run) (nodes_by c (choice_of choices) ops)

-- On each link the state holds, of the meaning in the order of the link's sort, and as many rows were put as the meaning has; the faults are the meaning's; and each export has of
-- the meaning what the grade of its link says.
pub record KeepsMeaningBy (c : Chart) (states : List State) (choices : List Choice) (ops : ℕ → Op) (whole : ℕ → List Row) (run : Lists) : Type 0 where
  pub links : (l : ℕ) → l < length c.flow.links → Keeps (width_at c) (sort_by choices) (state_at states) whole run l
  pub counts : (l : ℕ) → l < length c.flow.links → length (joined (run.sent l)) ≡ length (whole l)
  pub faults : IsPermutation (run_faults run (nodes_of c ops)) (meant_faults whole (nodes_of c ops))
  pub sinks : (o : ℕ) → o < length c.flow.ops → IsExport (op_at c o).kind → Meets (grade (width_at c (input_of c o)) (state_at states (input_of c o))) (run.got (input_of c o)) (whole (input_of c o))

abbrev pub AcceptedRunsKeepBy : Type 0
AcceptedRunsKeepBy = (regains : Bool) (flow : Flow) (dict : List Stored) (c : Chart) (states : List State) (choices : List Choice) (ops : ℕ → Op) (whole : ℕ → List Row) (run : Lists) → AcceptedRunBy regains flow dict c states choices ops whole run → KeepsMeaningBy c states choices ops whole run

-- With the choices that a flow's text writes it is what a legal run of an accepted flow is, and keeps.
abbrev pub WrittenRuns : Type 0
WrittenRuns = (regains : Bool) (flow : Flow) (dict : List Stored) (c : Chart) (states : List State) (choices : List Choice) (ops : ℕ → Op) (whole : ℕ → List Row) (run : Lists) → AcceptedRun regains flow dict c states choices ops whole run → AcceptedRunBy regains flow dict c states choices ops whole run

abbrev pub WrittenKeeps : Type 0
WrittenKeeps = (c : Chart) (states : List State) (choices : List Choice) (ops : ℕ → Op) (whole : ℕ → List Row) (run : Lists) → IsShape c → choices ≡ map (choice_at c) (all_links c) → KeepsMeaningBy c states choices ops whole run → KeepsMeaning c states ops whole run
