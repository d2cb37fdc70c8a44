-- Operators as their kinds say, with what the files leave open: the lines of an import, and the rows that an export can't write.
use Rattle.std.specs.Prelude.{◌≡◌, ◌<◌, ℕ, true, List, length}
use Rattle.std.specs.List.{AllByRecursion}
use Rattle.ds_schema.specs.declared.schema.Field.{Field}
use Rattle.ds_schema.specs.Schemas.{row_fits}
use Rattle.op_base.specs.declared.fault.Fault.{Fault}
use Rattle.op_base.specs.Columns.{Row}
use Rattle.op_base.specs.Meanings.{Line, good, bad}
use Rattle.op_base.specs.RowOperators.{sink_rule}
use Rattle.flow_graph.specs.declared.op_kind.OpKind.{OpKind}
use Rattle.flow_graph.specs.declared.op_kind.OpKind.TheVariants as kind
use Rattle.flow_graph.specs.declared.parts.OpParts.{OpParts}
use Rattle.flow_graph.specs.Charts.{Chart, op_at, parts_of}
use Rattle.flow_graph.specs.Operators.{Op, import, by_row}
use Rattle.flow_ops.specs.Kinds.{IsBetween, widths_into}
use Rattle.op_shape.specs.Options.{line_fields}

-- a good line is a row that fits the schema, and a bad one is a row of its bytes
abbrev pub LineFits : List Field → Line → Type 0
LineFits fields (good r) = row_fits fields r ≡ true
LineFits fields (bad r f) = row_fits line_fields r ≡ true

-- what the operator with this number is, by its kind, what its names stand for and the widths of its inputs; kinds that aren't built yet are none
abbrev pub IsOfKind : ℕ → OpKind → OpParts → List ℕ → Op → Type 0
IsOfKind o (kind.Import file schema delim fixed reject) parts widths op = (lines : List Line) × (beyond : List Fault) × AllByRecursion (LineFits schema) lines × (op ≡ import lines reject beyond)
IsOfKind o (kind.Export file delim fixed) parts widths op = (unwritable : Row → List Fault) × (op ≡ by_row (sink_rule unwritable))
IsOfKind o k parts widths op = IsBetween o k parts widths op

abbrev pub AreOfKinds : Chart → (ℕ → Op) → Type 0
AreOfKinds c ops = (o : ℕ) → o < length c.flow.ops → IsOfKind o (op_at c o).kind (parts_of c o) (widths_into c o) (ops o)
