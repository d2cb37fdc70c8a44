-- What the files make of a flow: which inputs are missing, what each operator is, and what the flow means.
use Rattle.std.specs.Prelude.{◌≡◌, ◌<◌, ℕ, List, [], ◌∷◌, length, get_or, Option, Some, None}
use Rattle.std.specs.List.{AllByRecursion}
use Rattle.ds_schema.specs.declared.schema.Field.{Field}
use Rattle.ds_port.specs.FileMap.{FileMap, file_at}
use Rattle.op_base.specs.Columns.{Row}
use Rattle.op_base.specs.Meanings.{Line}
use Rattle.op_base.specs.RowOperators.{sink_rule}
use Rattle.ds_text.specs.declared.form.Form.{Form}
use Rattle.ds_text.specs.declared.form.Form.TheVariants.{Delimited, Fixed}
use Rattle.flow_files.specs.Lines.{AreLines, beyond}
use Rattle.flow_files.specs.Texts.{export_faults}
use Rattle.flow_graph.specs.Charts.{Chart, op_at, parts_of}
use Rattle.flow_graph.specs.Operators.{Op, import, by_row}
use Rattle.flow_graph.specs.Runs.{Means}
use Rattle.flow_graph.specs.declared.flow.OpSpec.{OpSpec}
use Rattle.flow_graph.specs.declared.op_kind.OpKind.{OpKind}
use Rattle.flow_graph.specs.declared.op_kind.OpKind.TheVariants as kind
use Rattle.flow_ops.specs.Kinds.{IsBetween, widths_into}
use Rattle.flow_rules.specs.Exports.{input_of}
use Rattle.flow_rules.specs.Verdicts.{nodes_of}

abbrev pub missing_if : Option (List ℕ) → List ℕ → Option (List ℕ)
missing_if None name = Some name
missing_if (Some bytes) name = None

-- the file that an operator reads, where it isn't there
abbrev pub missing_of : FileMap → OpKind → Option (List ℕ)
missing_of files (kind.Import file schema delim fixed reject) = missing_if (file_at files file) file
missing_of files k = None

abbrev pub first_of : Option (List ℕ) → Option (List ℕ) → Option (List ℕ)
first_of None later = later
first_of (Some name) later = Some name

-- the first file that isn't there, by the number of the operator that reads it
abbrev pub first_missing : FileMap → List OpSpec → Option (List ℕ)
first_missing files [] = None
first_missing files (op ∷ ops) = first_of (missing_of files op.kind) (first_missing files ops)

abbrev pub fields_of : Chart → ℕ → List Field
fields_of c l = get_or c.schemas l []

-- fields with a delimiter between them, or of fixed widths
abbrev pub form : ℕ → Option (List ℕ) → Form
form delim None = Delimited delim
form delim (Some widths) = Fixed widths

-- the lines of its file decide an import, the columns of its input which rows an export can't write
abbrev pub IsOp : FileMap → Chart → ℕ → OpKind → Op → Type 0
IsOp files c o (kind.Import file schema delim fixed reject) op =
    (bytes : List ℕ) × (lines : List Line) × (file_at files file ≡ Some bytes) × AreLines (form delim fixed) schema o bytes lines × (op ≡ import lines reject (beyond o bytes))
IsOp files c o (kind.Export file delim fixed) op = op ≡ by_row (sink_rule (export_faults o (form delim fixed) (fields_of c (input_of c o))))
IsOp files c o k op = IsBetween o k (parts_of c o) (widths_into c o) op

-- the operators of a flow over these files, and what it means: the whole list on each link
pub record IsMeaning (files : FileMap) (c : Chart) (ops : ℕ → Op) (whole : ℕ → List Row) : Type 0 where
  pub ops_are : (o : ℕ) → o < length c.flow.ops → IsOp files c o (op_at c o).kind (ops o)
  pub means : AllByRecursion (Means whole) (nodes_of c ops)
