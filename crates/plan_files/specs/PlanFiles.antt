-- What the files of a flow are for the sources and the exports of its plan.
use Rattle.std.specs.Prelude.{◌≡◌, ℕ, ◌<◌, Bool, List, [], ◌++◌, map}
use Rattle.streams.specs.Core.{Lane}
use Rattle.ds_port.specs.FileMap.{FileMap}
use Rattle.op_base.specs.declared.fault.Fault.{Fault}
use Rattle.op_base.specs.Columns.{Row}
use Rattle.flow_files.specs.Texts.{export_faults}
use Rattle.flow_graph.specs.declared.flow.Flow.{Flow}
use Rattle.flow_graph.specs.declared.op_kind.OpKind.{OpKind}
use Rattle.flow_graph.specs.declared.op_kind.OpKind.TheVariants as kind
use Rattle.flow_graph.specs.declared.parts.Stored.{Stored}
use Rattle.flow_graph.specs.declared.route.Choice.{Choice}
use Rattle.flow_graph.specs.declared.state.State.{State}
use Rattle.flow_graph.specs.Charts.{Chart, links_into, op_at}
use Rattle.flow_graph.specs.FlowShape.{IsShape}
use Rattle.flow_graph.specs.Operators.{Op, import}
use Rattle.flow_rules.specs.Exports.{input_of}
use Rattle.flow_rules.specs.declared.verdict.Verdict.TheVariants.{Accepted}
use Rattle.flow_rules.specs.Verdicts.{IsVerdictBy}
use Rattle.flow_score.specs.Scores.{JoinsEqual, degree_at}
use Rattle.flow_shape.specs.Refusals.{IsShapeOf}
use Rattle.flow_choices.specs.Choices.{AcceptedBy}
use Rattle.flow_links.specs.Outputs.{LinksOutputs}
use Rattle.flow_plan.specs.Data.{Datum, line, wrong}
use Rattle.flow_plan.specs.Planned.{PlanLink, link, behind, file, plan_link_at, op_count, link_count}
use Rattle.plan_sound.specs.FlowRuns.{file_lane}
use Rattle.plan_promise.specs.Promised.{Played}
use Rattle.osh_sound.specs.Sound.{KeepsMarks}
use Rattle.osh_ends.specs.FlowFiles.{IsMeaning, fields_of, form}

-- what an import is fed: its lines, and then its faults of no line
abbrev pub source_items : Op → List Datum
source_items (import lines rejects beyond) = map line lines ++ map wrong beyond
source_items op = []

-- a link of the plan from a file has what its source is fed
abbrev pub items_on : (ℕ → Op) → PlanLink → List Datum
items_on ops (link l) = []
items_on ops (behind l) = []
items_on ops (file o) = source_items (ops o)

abbrev pub source_files : Chart → (ℕ → Op) → Lane → List Datum
source_files c ops k = items_on ops (plan_link_at (link_count c) k.link)

-- the fault of a row that an export can't write
abbrev pub unwritable_by : Chart → ℕ → OpKind → Row → List Fault
unwritable_by c o (kind.Export name delim fixed) r = export_faults o (form delim fixed) (fields_of c (input_of c o)) r
unwritable_by c o k r = []

abbrev pub unwritable_at : Chart → ℕ → Row → List Fault
unwritable_at c o r = unwritable_by c o (op_at c o).kind r

-- each source is fed its file
abbrev pub FilesAre : Chart → (ℕ → ℕ) → (ℕ → Op) → (Lane → List Datum) → Type 0
FilesAre c degree ops fed = (o p : ℕ) → o < op_count c → p < degree o → links_into c o ≡ [] → fed (file_lane c o p) ≡ source_items (ops o)

-- There are such files, whatever the operators are.
abbrev pub SourcesHaveFiles : Type 0
SourcesHaveFiles = (c : Chart) (degree : ℕ → ℕ) (ops : ℕ → Op) → FilesAre c degree ops (source_files c ops)

-- A flow over its files, with choices with which it is accepted: its shape, with the marks and outputs that each flow that is read has, nodes on which `same` joins equal degrees, and what the
-- files make of it.
pub record ChosenFlow (regains : Bool) (files : FileMap) (flow : Flow) (dict : List Stored) (c : Chart) (states : List State) (choices : List Choice) (nodes : ℕ) (ops : ℕ → Op) (whole : ℕ → List Row) : Type 0 where
  pub shape : IsShape c
  pub shape_of : IsShapeOf flow dict c
  pub marks : KeepsMarks flow
  pub outs : LinksOutputs c
  pub accepted : AcceptedBy regains c states choices
  pub some : 0 < nodes
  pub joins : JoinsEqual c choices nodes
  pub meaning : IsMeaning files c ops whole

-- An accepted flow over its files: the same, with the choices and states of its verdict.
pub record AcceptedFlow (regains : Bool) (files : FileMap) (flow : Flow) (dict : List Stored) (c : Chart) (states : List State) (choices : List Choice) (nodes : ℕ) (ops : ℕ → Op) (whole : ℕ → List Row) : Type 0 where
  pub shape : IsShape c
  pub shape_of : IsShapeOf flow dict c
  pub marks : KeepsMarks flow
  pub outs : LinksOutputs c
  pub verdict : IsVerdictBy regains c (Accepted states choices)
  pub some : 0 < nodes
  pub joins : JoinsEqual c choices nodes
  pub meaning : IsMeaning files c ops whole

abbrev pub AcceptedIsChosen : Type 0
AcceptedIsChosen = (regains : Bool) (files : FileMap) (flow : Flow) (dict : List Stored) (c : Chart) (states : List State) (choices : List Choice) (nodes : ℕ) (ops : ℕ → Op) (whole : ℕ → List Row) →
    AcceptedFlow regains files flow dict c states choices nodes ops whole → ChosenFlow regains files flow dict c states choices nodes ops whole

-- It can be played, if each source is fed its file.
abbrev pub FlowsCanBePlayed : Type 0
FlowsCanBePlayed = (regains : Bool) (files : FileMap) (flow : Flow) (dict : List Stored) (c : Chart) (states : List State) (choices : List Choice) (nodes : ℕ) (ops : ℕ → Op) (whole : ℕ → List Row) (fed : Lane → List Datum) →
    ChosenFlow regains files flow dict c states choices nodes ops whole → FilesAre c (degree_at c nodes) ops fed → Played regains flow dict c states choices ops whole (degree_at c nodes) (unwritable_at c) fed
