-- What holds of each flow that is read.
use Rattle.std.specs.Prelude.{◌≡◌, ℕ, List, Ok, Option, Some, None}
use Rattle.std.specs.List.{AllByRecursion}
use Rattle.ds_text.specs.Forms.{IsDelimiter, IsWidth}
use Rattle.flow_graph.specs.declared.flow.Mark.{Mark}
use Rattle.flow_graph.specs.declared.flow.Mark.TheVariants as mark
use Rattle.flow_graph.specs.declared.flow.OpSpec.{OpSpec}
use Rattle.flow_graph.specs.declared.flow.Flow.{Flow}
use Rattle.flow_graph.specs.declared.op_kind.OpKind.{OpKind}
use Rattle.flow_graph.specs.declared.op_kind.OpKind.TheVariants as kind
use Rattle.flow_shape.specs.Spelled.{IsJoined}
use Rattle.osh_read.specs.Flows.{flow_of}

-- files are read and written on one partition, a data set is read on its own, and no other operator runs as a data set is read
abbrev pub MarkFits : OpKind → Mark → Type 0
MarkFits (kind.Import file schema delim fixed reject) m = m ≡ mark.Seq
MarkFits (kind.Export file delim fixed) m = m ≡ mark.Seq
MarkFits (kind.Dsread ds) m = m ≡ mark.Stored
MarkFits other m = m ≡ mark.Stored → ⊥

abbrev pub KeepsMarks : Flow → Type 0
KeepsMarks flow = AllByRecursion (λ (o : OpSpec). MarkFits o.kind o.mark) flow.ops

abbrev pub AreWidths : Option (List ℕ) → Type 0
AreWidths None = Unit {0}
AreWidths (Some widths) = AllByRecursion IsWidth widths

-- the delimiter and the widths of a file are such as records can have
abbrev pub FormStands : OpKind → Type 0
FormStands (kind.Import file schema delim fixed reject) = IsDelimiter delim × AreWidths fixed
FormStands (kind.Export file delim fixed) = IsDelimiter delim × AreWidths fixed
FormStands other = Unit {0}

abbrev pub KeepsForms : Flow → Type 0
KeepsForms flow = AllByRecursion (λ (o : OpSpec). FormStands o.kind) flow.ops

-- what is read can be shaped
abbrev pub ReadIsJoined : Type 0
ReadIsJoined = (bytes : List ℕ) (flow : Flow) → flow_of bytes ≡ Ok flow → IsJoined flow

abbrev pub ReadKeepsMarks : Type 0
ReadKeepsMarks = (bytes : List ℕ) (flow : Flow) → flow_of bytes ≡ Ok flow → KeepsMarks flow

abbrev pub ReadKeepsForms : Type 0
ReadKeepsForms = (bytes : List ℕ) (flow : Flow) → flow_of bytes ≡ Ok flow → KeepsForms flow
