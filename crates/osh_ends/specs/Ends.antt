-- What a call comes to, where no device fails and there is memory.
use Rattle.std.specs.Prelude.{◌≡◌, ◌⊎◌, ◌<◌, ℕ, true, false, List, [], ◌∷◌, length, Ok, Err, None, Some}
use Rattle.std.specs.List.{flat_map, range_with_len}
use Rattle.op_base.specs.declared.fault.Fault.{Fault}
use Rattle.op_base.specs.Columns.{Row}
use Rattle.op_base.specs.Lists.{joined}
use Rattle.ds_port.specs.FileMap.{FileMap, file_at}
use Rattle.config_read.specs.declared.fault.ConfigWhy.{ConfigWhy}
use Rattle.config_read.specs.declared.config.Config.{Config}
use Rattle.config_read.specs.Pools.{default_count}
use Rattle.config_read.specs.First.{IsSpelled, IsFirstFault}
use Rattle.flow_files.specs.Tallies.{IsLeast}
use Rattle.flow_files.specs.Texts.{exported_text}
use Rattle.flow_outputs.specs.Outputs.{NamedFile}
use Rattle.flow_graph.specs.declared.flow.Flow.{Flow}
use Rattle.flow_graph.specs.declared.op_kind.OpKind.{OpKind}
use Rattle.flow_graph.specs.declared.op_kind.OpKind.TheVariants as kind
use Rattle.flow_graph.specs.declared.route.Choice.{Choice}
use Rattle.flow_graph.specs.declared.state.State.{State}
use Rattle.flow_graph.specs.Charts.{Chart, op_at, width_at}
use Rattle.flow_graph.specs.Grades.{grade, Meets}
use Rattle.flow_graph.specs.Operators.{Op}
use Rattle.flow_graph.specs.Runs.{meant_faults}
use Rattle.flow_rules.specs.Exports.{IsExport, input_of}
use Rattle.flow_rules.specs.declared.verdict.Verdict.{Verdict}
use Rattle.flow_rules.specs.declared.verdict.Verdict.TheVariants.{Accepted, Refused}
use Rattle.flow_derive.specs.LinkStates.{state_at}
use Rattle.flow_rules.specs.Verdicts.{IsVerdict, nodes_of}
use Rattle.flow_score.specs.Scores.{IsMismatch}
use Rattle.flow_score.specs.Seating.{Seats, Crowds}
use Rattle.shape_base.specs.declared.fault.ShapeWhy.{ShapeWhy}
use Rattle.flow_shape.specs.Refusals.{IsShapeOf, Refuses}
use Rattle.osh_read.specs.declared.fault.OshWhy.{OshWhy}
use Rattle.osh_read.specs.Flows.{flow_of}
use Rattle.osh_words.specs.declared.command.Command.{Command}
use Rattle.osh_words.specs.declared.command.Command.TheVariants as command
use Rattle.osh_words.specs.Spelled.{Spells}
use Rattle.osh_ends.specs.Built.{is_built}
use Rattle.osh_ends.specs.FlowFiles.{IsMeaning, first_missing, form, fields_of}
use Rattle.osh_ends.specs.Reports.{verdict_report, report, fault_report}
use Rattle.osh_ends.specs.Steps.{Reads, Spelled}

-- words that are no command; a command or a part of a flow that isn't built; faults of the texts and of the shape; a file that isn't there;
-- a flow that is refused, and one that is sound, each with the report; degrees or players that can't be; files that are written, and the report; the report of faults
pub data End : Type 0 where
  usage : End
  unbuilt : End
  bad_flow : ℕ → OshWhy → End
  bad_config : ℕ → ConfigWhy → End
  bad_shape : ShapeWhy → ℕ → End
  absent : List ℕ → End
  refused : List ℕ → End
  checked : List ℕ → End
  mismatch : ℕ → ℕ → ℕ → End
  crowded : ℕ → End
  done : List NamedFile → List ℕ → End
  faulty : List ℕ → End

-- ---- texts

-- the flow that a text spells, where all of it is built
abbrev pub FlowIn : List ℕ → (Flow → End → Type 0) → End → Type 0
FlowIn text next end =
    ((at : ℕ) × (why : OshWhy) × (flow_of text ≡ Err (record { at = at; why = why })) × (end ≡ bad_flow at why))
    ⊎ ((flow : Flow) × (flow_of text ≡ Ok flow) × (((is_built flow ≡ false) × (end ≡ unbuilt)) ⊎ ((is_built flow ≡ true) × next flow end)))

-- the number of nodes in the default pool of the configuration that a text spells
abbrev pub NodesIn : List ℕ → (ℕ → End → Type 0) → End → Type 0
NodesIn text next end =
    ((at : ℕ) × (why : ConfigWhy) × IsFirstFault text at why × (end ≡ bad_config at why))
    ⊎ ((config : Config) × IsSpelled text config × next (default_count config.nodes) end)

-- the shape of a flow
abbrev pub Shapes : Flow → (Chart → End → Type 0) → End → Type 0
Shapes flow next end = ((why : ShapeWhy) × (op : ℕ) × Refuses flow why op × (end ≡ bad_shape why op)) ⊎ ((c : Chart) × IsShapeOf flow [] c × next c end)

-- the files that a flow reads
abbrev pub Finds : FileMap → Chart → (End → Type 0) → End → Type 0
Finds files c next end = ((name : List ℕ) × (first_missing files c.flow.ops ≡ Some name) × (end ≡ absent name)) ⊎ ((first_missing files c.flow.ops ≡ None) × next end)

-- ---- a check

-- the report of a verdict, by which a flow is refused or sound
abbrev pub verdict_end : Chart → Verdict → End
verdict_end c (Accepted states choices) = checked (verdict_report c (Accepted states choices))
verdict_end c (Refused link need have) = refused (verdict_report c (Refused link need have))

abbrev pub Checks : Chart → End → Type 0
Checks c end = (v : Verdict) × IsVerdict c v × (end ≡ verdict_end c v)

-- ---- a run

-- the file that an export leaves
abbrev pub file_of : Chart → (ℕ → List (List Row)) → ℕ → OpKind → List NamedFile
file_of c parts o (kind.Export file delim fixed) = (file, flat_map (exported_text (form delim fixed) (fields_of c (input_of c o))) (joined (parts (input_of c o)))) ∷ []
file_of c parts o k = []

-- the files of all exports, by operator number, from the rows in the partitions of each link
abbrev pub files_of : Chart → (ℕ → List (List Row)) → List NamedFile
files_of c parts = flat_map (λ o. file_of c parts o (op_at c o).kind) (range_with_len 0 (length c.flow.ops))

-- what comes at each export is the meaning's, for every key of the grade that is printed for it
abbrev pub MeetsGrades : Chart → List State → (ℕ → List Row) → (ℕ → List (List Row)) → Type 0
MeetsGrades c states whole parts =
    (o : ℕ) → o < length c.flow.ops → IsExport (op_at c o).kind → let l = input_of c o in Meets (grade (width_at c l) (state_at states l)) (parts l) (whole l)

-- a run without faults leaves the rows that came at the exports; else it tells how many faults there are and the least of them
abbrev pub Finishes : Chart → List State → List Choice → ℕ → (ℕ → List Row) → List Fault → End → Type 0
Finishes c states choices nodes whole [] end =
    (parts : ℕ → List (List Row)) × MeetsGrades c states whole parts × (end ≡ done (files_of c parts) (report c states choices nodes whole))
Finishes c states choices nodes whole (f ∷ fs) end =
    (least : Fault) × IsLeast least (f ∷ fs) × (end ≡ faulty (fault_report c states choices nodes (length (f ∷ fs)) least))

abbrev pub RunsTo : FileMap → Chart → ℕ → List State → List Choice → End → Type 0
RunsTo files c nodes states choices end =
    (ops : ℕ → Op) × (whole : ℕ → List Row) × IsMeaning files c ops whole × Finishes c states choices nodes whole (meant_faults whole (nodes_of c ops)) end

-- each `same` joins equal degrees, and the players aren't too many
abbrev pub SeatsOn : Chart → List Choice → ℕ → (End → Type 0) → End → Type 0
SeatsOn c choices nodes next end =
    ((link : ℕ) × (from : ℕ) × (to : ℕ) × IsMismatch c choices nodes link from to × (end ≡ mismatch link from to))
    ⊎ (((n : ℕ) × Crowds c choices nodes n × (end ≡ crowded n)) ⊎ ((n : ℕ) × Seats c choices nodes n × next end))

abbrev pub AcceptedRuns : FileMap → Chart → ℕ → Verdict → End → Type 0
AcceptedRuns files c nodes (Accepted states choices) end = SeatsOn c choices nodes (RunsTo files c nodes states choices) end
AcceptedRuns files c nodes (Refused link need have) end = end ≡ refused (verdict_report c (Refused link need have))

abbrev pub VerdictRuns : FileMap → Chart → ℕ → End → Type 0
VerdictRuns files c nodes end = (v : Verdict) × IsVerdict c v × AcceptedRuns files c nodes v end

-- ---- commands

-- the flow, and its shape
abbrev pub ChecksFile : FileMap → List ℕ → End → Type 0
ChecksFile files name =
    Reads (file_at files name) (absent name) (λ text.
    FlowIn text (λ flow.
    Shapes flow Checks))

-- the flow, the configuration, the shape, the files that the flow reads, the verdict, the seats and the run, in this order
abbrev pub RunsFile : FileMap → List ℕ → List ℕ → End → Type 0
RunsFile files name config_name =
    Reads (file_at files name) (absent name) (λ text.
    FlowIn text (λ flow.
    Reads (file_at files config_name) (absent config_name) (λ config.
    NodesIn config (λ nodes.
    Shapes flow (λ c.
    Finds files c (VerdictRuns files c nodes))))))

abbrev pub Commands : FileMap → Command → End → Type 0
Commands files (command.Check flow) end = ChecksFile files flow end
Commands files (command.Run true cap spill flow config) end = RunsFile files flow config end
Commands files (command.Run false cap spill flow config) end = end ≡ unbuilt
Commands files (command.Score flow config) end = end ≡ unbuilt
Commands files (command.Meaning flow) end = end ≡ unbuilt
Commands files (command.Gen n x) end = end ≡ unbuilt

abbrev pub ComesTo : List (List ℕ) → FileMap → End → Type 0
ComesTo words files = Spelled (Spells words) usage (Commands files)

abbrev pub end_status : End → ℕ
end_status usage = 1
end_status unbuilt = 8
end_status (bad_flow at why) = 2
end_status (bad_config at why) = 3
end_status (bad_shape why op) = 4
end_status (absent name) = 7
end_status (refused text) = 5
end_status (checked text) = 0
end_status (mismatch link from to) = 6
end_status (crowded n) = 6
end_status (done outputs text) = 0
end_status (faulty text) = 9

-- All that a call comes to has one status.
abbrev pub OneStatus : Type 0
OneStatus = (words : List (List ℕ)) (files : FileMap) (x y : End) → ComesTo words files x → ComesTo words files y → end_status x ≡ end_status y
