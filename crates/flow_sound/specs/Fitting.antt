-- Rows against the schemas of their links.
use Rattle.std.specs.Prelude.{◌≡◌, ◌<◌, ℕ, Bool, true, List, length, ⊤}
use Rattle.std.specs.List.{AllByRecursion}
use Rattle.ds_schema.specs.declared.schema.Field.{Field}
use Rattle.ds_schema.specs.Schemas.{row_fits}
use Rattle.ds_schema.specs.Rows.{ways}
use Rattle.op_base.specs.Columns.{Lies, Row, all_columns}
use Rattle.op_base.specs.Keyed.{get_keys}
use Rattle.flow_graph.specs.declared.flow.Flow.{Flow}
use Rattle.flow_graph.specs.declared.parts.OpParts.{OpParts}
use Rattle.flow_graph.specs.declared.parts.Stored.{Stored}
use Rattle.flow_graph.specs.declared.route.Choice.{Choice}
use Rattle.flow_graph.specs.declared.state.State.{State}
use Rattle.flow_graph.specs.declared.op_kind.OpKind.{OpKind}
use Rattle.flow_graph.specs.declared.op_kind.OpKind.TheVariants as kind
use Rattle.flow_graph.specs.Charts.{Chart, first_fields, op_at, parts_of}
use Rattle.flow_graph.specs.Fitting.{KeepsFields}
use Rattle.flow_graph.specs.FlowShape.{IsShape}
use Rattle.flow_graph.specs.Operators.{Op}
use Rattle.flow_graph.specs.Runs.{Lists, Means}
use Rattle.flow_ops.specs.Keyed.{aggs_of}
use Rattle.flow_ops.specs.Kept.{GivesFields, SumsFit}
use Rattle.flow_rules.specs.Verdicts.{nodes_of}
use Rattle.op_shape.specs.Options.{IsKeyed}
use Rattle.flow_shape.specs.Refusals.{IsShapeOf, fields_at}
use Rattle.flow_rules.specs.Exports.{IsExport, input_of}
use Rattle.flow_sound.specs.Kinds.{IsOfKind}
use Rattle.flow_ops.specs.Kinds.{widths_into}
use Rattle.flow_sound.specs.Promise.{AcceptedRun, ShapedFlow}

-- each row fits these fields
abbrev pub RowsFit : List Field → List Row → Type 0
RowsFit fields rows = AllByRecursion (λ (r : Row). row_fits fields r ≡ true) rows

-- The meaning's rows do.
abbrev pub MeaningFits : Type 0
MeaningFits = (flow : Flow) (dict : List Stored) (c : Chart) (ops : ℕ → Op) (whole : ℕ → List Row) → ShapedFlow flow dict c ops → AllByRecursion (Means whole) (nodes_of c ops) →
    (l : ℕ) → l < length c.flow.links → RowsFit (fields_at c l) (whole l)

-- So do the rows that came at the partitions of an export.
abbrev pub ExportsFit : Type 0
ExportsFit = (regains : Bool) (flow : Flow) (dict : List Stored) (c : Chart) (states : List State) (choices : List Choice) (ops : ℕ → Op) (whole : ℕ → List Row) (run : Lists) → AcceptedRun regains flow dict c states choices ops whole run →
    (o : ℕ) → o < length c.flow.ops → IsExport (op_at c o).kind → AllByRecursion (RowsFit (fields_at c (input_of c o))) (run.got (input_of c o))

-- whether an operator works row by row on the fields of its input
abbrev pub IsByRow : OpKind → Type 0
IsByRow (kind.Filter test reject) = ⊤
IsByRow (kind.Transform set reject) = ⊤
IsByRow (kind.Modify keep drop rename) = ⊤
IsByRow (kind.Switch on cases reject) = ⊤
IsByRow k = ⊥

-- Such an operator of a shaped flow makes rows that fit of rows that fit.
abbrev pub RowsStay : Type 0
RowsStay = (flow : Flow) (dict : List Stored) (c : Chart) → IsShape c → IsShapeOf flow dict c → (o : ℕ) → o < length c.flow.ops → IsByRow (op_at c o).kind → KeepsFields c o

-- what a run asks of the columns of a group, a join or a lookup: those of a group's results lie in its input, and what it sums can be summed; the key lists of two inputs are of one length, and a key descends on both or on neither
abbrev pub ColumnsSuit : List Field → OpKind → OpParts → Type 0
ColumnsSuit fields (kind.Group key hash results) parts = Lies parts.cols (all_columns (length fields)) × AllByRecursion (SumsFit fields) (aggs_of results parts.cols)
ColumnsSuit fields (kind.InnerJoin key) parts = ways (get_keys parts.keys 0) ≡ ways (get_keys parts.keys 1)
ColumnsSuit fields (kind.LeftOuterJoin key) parts = ways (get_keys parts.keys 0) ≡ ways (get_keys parts.keys 1)
ColumnsSuit fields (kind.RightOuterJoin key) parts = ways (get_keys parts.keys 0) ≡ ways (get_keys parts.keys 1)
ColumnsSuit fields (kind.FullOuterJoin key) parts = ways (get_keys parts.keys 0) ≡ ways (get_keys parts.keys 1)
ColumnsSuit fields (kind.Lookup key missing) parts = ways (get_keys parts.keys 0) ≡ ways (get_keys parts.keys 1)
ColumnsSuit fields k parts = ⊤

-- A group, a join or a lookup of a shaped flow has such columns, and what a partition of it gives of rows that fit, fits.
abbrev pub KeyedRowsStay : Type 0
KeyedRowsStay = (flow : Flow) (dict : List Stored) (c : Chart) → IsShape c → IsShapeOf flow dict c → (o : ℕ) → o < length c.flow.ops → IsKeyed (op_at c o).kind →
    ColumnsSuit (first_fields c o) (op_at c o).kind (parts_of c o) × ((op : Op) → IsOfKind o (op_at c o).kind (parts_of c o) (widths_into c o) op → GivesFields c o op)
