-- The streams of the operators, by their kinds.
use Rattle.std.specs.Prelude.{◌≡◌, ℕ, ◌<◌, Bool, true, List, [], length, map, None}
use Rattle.std.specs.List.{AllByRecursion}
use Rattle.streams.specs.Streams.{Stream}
use Rattle.ds_schema.specs.Schemas.{row_fits}
use Rattle.op_base.specs.declared.fault.Fault.{Fault}
use Rattle.op_base.specs.Columns.{IsIn, Row}
use Rattle.op_base.specs.Meanings.{Segment}
use Rattle.op_base.specs.RowOperators.{sink_rule}
use Rattle.op_row.specs.ByRow.{by_row as by_row_stream}
use Rattle.flow_graph.specs.declared.flow.Flow.{Flow}
use Rattle.flow_graph.specs.declared.op_kind.OpKind.{OpKind}
use Rattle.flow_graph.specs.declared.op_kind.OpKind.TheVariants as kind
use Rattle.flow_graph.specs.declared.parts.OpParts.{OpParts}
use Rattle.flow_graph.specs.declared.parts.Stored.{Stored}
use Rattle.flow_graph.specs.Charts.{Chart, link_at, links_from, links_into, op_at, parts_of}
use Rattle.flow_graph.specs.FlowShape.{PortsInOrder}
use Rattle.flow_graph.specs.Operators.{Op, by_row, dsread}
use Rattle.flow_graph.specs.RowRules.{at_op}
use Rattle.flow_ops.specs.Kinds.{op_by, widths_into}
use Rattle.kind_streams.specs.OfKinds.{row_stream}
use Rattle.flow_rules.specs.Exports.{IsExport}
use Rattle.shape_base.specs.Fields.{first_fields}
use Rattle.keyed_shape.specs.Matched.{capture_fields, inputs_cause, inputs_keys, merge_output, schemas_cause, value_columns}
use Rattle.flow_shape.specs.Refusals.{fields_at, inputs_at}
use Rattle.flow_links.specs.Outputs.{LinksOutputs}
use Rattle.flow_sound.specs.Promise.{ShapedFlow}
use Rattle.flow_plan.specs.Data.{Datum, numbered_at, import_stream, dsread_stream}
use Rattle.flow_plan.specs.Planned.{op_count}
use Rattle.plan_sound.specs.Working.{Works}

-- The stream of the operator with the number o: an export has faults for rows that it can't write.
abbrev pub stream_by : ℕ → OpKind → OpParts → List ℕ → ℕ → (Row → List Fault) → Stream Datum Fault
stream_by o (kind.Import file schema delim fixed reject) parts widths outs unwritable = import_stream reject
stream_by o (kind.Dsread ds) parts widths outs unwritable = dsread_stream
stream_by o (kind.Export file delim fixed) parts widths outs unwritable = numbered_at o (by_row_stream (sink_rule unwritable) 0)
stream_by o k parts widths outs unwritable = numbered_at o (row_stream k parts widths outs)

abbrev pub stream_at : Chart → (ℕ → Row → List Fault) → ℕ → Stream Datum Fault
stream_at c unwritable o = stream_by o (op_at c o).kind (parts_of c o) (widths_into c o) (length (links_from c o)) (unwritable o)

-- a row fits the fields of a link
abbrev pub fits_at : Chart → ℕ → Row → Bool
fits_at c l r = row_fits (fields_at c l) r

-- what exports can't write are the faults of their streams
abbrev pub SinksAre : Chart → (ℕ → Op) → (ℕ → Row → List Fault) → Type 0
SinksAre c ops unwritable = (o : ℕ) → o < op_count c → IsExport (op_at c o).kind → ops o ≡ by_row (sink_rule (λ r. map (at_op o) (unwritable o r)))

-- Each operator of a shaped flow, as the stream of its code, works.
abbrev pub KindsWork : Type 0
KindsWork = (flow : Flow) (dict : List Stored) (c : Chart) (ops : ℕ → Op) (unwritable : ℕ → Row → List Fault) → ShapedFlow flow dict c ops → LinksOutputs c → SinksAre c ops unwritable → (o : ℕ) → o < op_count c → Works c (fits_at c) o (ops o) (stream_at c unwritable o)

-- what a dsread of a data set is: it has the partitions and the place of the data set, and its rows fit the stored columns
pub record ReadsStored (stored : Stored) (op : Op) : Type 0 where
  pub segments : List Segment
  pub is_read : op ≡ dsread segments stored.place
  pub partitions : length segments ≡ stored.partitions
  pub fit : AllByRecursion (λ (s : Segment). AllByRecursion (λ (r : Row). row_fits stored.schema r ≡ true) s.rows) segments

-- A dsread whose links have the stored columns, as the stream of its code, works.
abbrev pub StoredWork : Type 0
StoredWork = (c : Chart) (unwritable : ℕ → Row → List Fault) (o : ℕ) (name : List ℕ) (stored : Stored) (op : Op) → (op_at c o).kind ≡ kind.Dsread name → ReadsStored stored op → links_into c o ≡ [] →
    ((l : ℕ) → IsIn l (links_from c o) → ((link_at c l).out ≡ 0) × (fields_at c l ≡ stored.schema)) → Works c (fits_at c) o op (stream_at c unwritable o)

-- a merge, a changecapture or a funnel whose inputs are as they must be, with the keys, the compared columns and the outputs that they give it
abbrev pub IsMatchedAt : Chart → ℕ → OpKind → Type 0
IsMatchedAt c o (kind.Merge key keepbad reject) =
    (0 < length (links_into c o)) × (inputs_cause key (inputs_at c o) ≡ None) × ((parts_of c o).keys ≡ inputs_keys key (inputs_at c o))
    × ((l : ℕ) → IsIn l (links_from c o) → ((link_at c l).out < length (links_into c o)) × (fields_at c l ≡ merge_output key keepbad (inputs_at c o) (link_at c l).out))
IsMatchedAt c o (kind.Changecapture key values keepcopy) =
    (length (links_into c o) ≡ 2) × (inputs_cause key (inputs_at c o) ≡ None) × (schemas_cause (inputs_at c o) ≡ None)
    × ((parts_of c o).keys ≡ inputs_keys key (inputs_at c o)) × ((parts_of c o).cols ≡ value_columns key values (first_fields (inputs_at c o)))
    × ((l : ℕ) → IsIn l (links_from c o) → ((link_at c l).out < 1) × (fields_at c l ≡ capture_fields (first_fields (inputs_at c o))))
IsMatchedAt c o (kind.Funnel sequence sort) =
    (0 < length (links_into c o)) × (schemas_cause (inputs_at c o) ≡ None) × ((l : ℕ) → IsIn l (links_from c o) → ((link_at c l).out < 1) × (fields_at c l ≡ first_fields (inputs_at c o)))
IsMatchedAt c o k = ⊥

-- Such an operator, as the stream of its code, works.
abbrev pub MatchedWork : Type 0
MatchedWork = (c : Chart) (unwritable : ℕ → Row → List Fault) (o : ℕ) → PortsInOrder c o → IsMatchedAt c o (op_at c o).kind → Works c (fits_at c) o (op_by o (op_at c o).kind (parts_of c o) (widths_into c o)) (stream_at c unwritable o)
