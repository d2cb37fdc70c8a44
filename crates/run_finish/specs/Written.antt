-- What the exports write, each from the rows that came at its partitions.
use Rattle.std.specs.Prelude.{◌≡◌, ◌<◌, ℕ, List, [], length, get_or, ⊤}
use Rattle.std.specs.List.{AllByRecursion, flat_map}
use Rattle.ds_text.specs.Forms.{FormFits}
use Rattle.op_base.specs.declared.fault.Fault.{Fault}
use Rattle.op_base.specs.Columns.{Row}
use Rattle.op_base.specs.Lists.{joined}
use Rattle.flow_files.specs.Lines.{AllFit}
use Rattle.flow_files.specs.Texts.{export_faults}
use Rattle.flow_graph.specs.Charts.{Chart, op_at}
use Rattle.flow_graph.specs.Operators.{Op}
use Rattle.flow_graph.specs.declared.op_kind.OpKind.{OpKind}
use Rattle.flow_graph.specs.declared.op_kind.OpKind.TheVariants as kind
use Rattle.ds_port.specs.FileMap.{FileMap}
use Rattle.flow_outputs.specs.Outputs.{NamedFile}
use Rattle.flow_rules.specs.Exports.{IsExport, input_of}
use Rattle.osh_ends.specs.Ends.{file_of}
use Rattle.osh_ends.specs.FlowFiles.{IsOp, form, fields_of}

-- the form suits the columns of the input, and the rows fit them
abbrev pub CanWrite : Chart → ℕ → List (List Row) → OpKind → Type 0
CanWrite c o parts (kind.Export file delim fixed) = FormFits (fields_of c (input_of c o)) (form delim fixed) × AllByRecursion (AllFit (fields_of c (input_of c o))) parts
CanWrite c o parts k = ⊤

-- the faults of an export are those of the rows that it can't write
abbrev pub faults_at : Chart → ℕ → List (List Row) → OpKind → List Fault
faults_at c o parts (kind.Export file delim fixed) = flat_map (export_faults o (form delim fixed) (fields_of c (input_of c o))) (joined parts)
faults_at c o parts k = []

-- of what came at each export, by the number of the operator
abbrev pub sink_at : List (List (List Row)) → ℕ → List (List Row)
sink_at sinks o = get_or sinks o []

abbrev pub CanWriteAll : Chart → List (List (List Row)) → Type 0
CanWriteAll c sinks = (o : ℕ) → o < length c.flow.ops → CanWrite c o (sink_at sinks o) (op_at c o).kind

abbrev pub file_written : Chart → List (List (List Row)) → ℕ → List NamedFile
file_written c sinks o = file_of c (λ l. sink_at sinks o) o (op_at c o).kind

abbrev pub faults_found : Chart → List (List (List Row)) → ℕ → List Fault
faults_found c sinks o = faults_at c o (sink_at sinks o) (op_at c o).kind

-- what came at each export is what is in the partitions of its input
abbrev pub ComeAt : Chart → List (List (List Row)) → (ℕ → List (List Row)) → Type 0
ComeAt c sinks parts = (o : ℕ) → o < length c.flow.ops → IsExport (op_at c o).kind → sink_at sinks o ≡ parts (input_of c o)

-- operators of a flow over some files
abbrev pub AreOps : FileMap → Chart → (ℕ → Op) → Type 0
AreOps files c ops = (o : ℕ) → o < length c.flow.ops → IsOp files c o (op_at c o).kind (ops o)
