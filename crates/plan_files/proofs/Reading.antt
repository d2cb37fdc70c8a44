-- What the files of a flow make of its operators is such as its plan asks.
use Rattle.std.proofs.Common.{◌≡◌, ◌≤◌, ◌<◌, ℕ, suc, Bool, true, false, List, [], ◌∷◌, length, map, take, refl, sym, ap, ◌∙◌, subst, arith}
use Rattle.std.specs.Prelude.{Option}
use Rattle.std.specs.List.{AllByRecursion}
use Rattle.std.proofs.lemmas.Bool.{le-leb}
use Rattle.std.proofs.lemmas.List.{length-take}
use Rattle.ds_schema.specs.declared.schema.Field.{Field}
use Rattle.ds_schema.specs.Schemas.{row_fits}
use Rattle.ds_port.specs.FileMap.{FileMap}
use Rattle.ds_text.specs.declared.form.Form.{Form}
use Rattle.ds_text.specs.Records.{is_refused}
use Rattle.ds_text.proofs.RecordProofs.{in_fits}
use Rattle.op_base.specs.Columns.{Row}
use Rattle.op_base.specs.Meanings.{Line, good, bad}
use Rattle.op_base.specs.RowOperators.{sink_rule}
use Rattle.flow_files.specs.Lines.{IsLine, AreLinesFrom, beyond, line_row}
use Rattle.flow_files.specs.Texts.{export_faults, fault_where, unwritable}
use Rattle.flow_graph.specs.declared.flow.Mark.{Mark}
use Rattle.flow_graph.specs.declared.flow.Mark.TheVariants as mark
use Rattle.flow_graph.specs.declared.flow.OpSpec.{OpSpec}
use Rattle.flow_graph.specs.declared.op_kind.OpKind.{OpKind}
use Rattle.flow_graph.specs.declared.op_kind.OpKind.TheVariants as kind
use Rattle.flow_graph.specs.declared.parts.Stored.{Stored}
use Rattle.flow_graph.specs.Charts.{Chart, no_op, op_at, parts_of}
use Rattle.flow_graph.specs.Operators.{Op, by_row}
use Rattle.flow_graph.specs.RowRules.{at_op}
use Rattle.flow_graph.specs.Runs.{FitsDegree}
use Rattle.flow_ops.specs.Kinds.{widths_into}
use Rattle.flow_rules.specs.Exports.{IsExport, input_of}
use Rattle.flow_score.specs.Scores.{degree}
use Rattle.op_shape.specs.Options.{line_fields}
use Rattle.flow_shape.proofs.Causing.{all_at}
use Rattle.flow_sound.specs.Kinds.{LineFits, IsOfKind}
use Rattle.flow_plan.specs.Planned.{link_count}
use Rattle.flow_plan.proofs.Wiring.{at_file_link}
use Rattle.plan_sound.specs.Working.{IsFileOf}
use Rattle.plan_promise.proofs.Nodes.{nodes_fit}
use Rattle.flow_choices.proofs.Written.{written_accepted}
use Rattle.osh_sound.specs.Sound.{MarkFits, KeepsMarks}
use Rattle.osh_ends.specs.FlowFiles.{IsOp, fields_of, form}
use Rattle.plan_files.specs.PlanFiles.{source_items, items_on, unwritable_by, SourcesHaveFiles, FlowsCanBePlayed, AcceptedIsChosen}

-- lines of a file fit the import's schema
line_fits : (bytes : List ℕ) → row_fits line_fields (line_row bytes) ≡ true
line_fits bytes = rw (le-leb (length (take 65536 bytes)) 65536 few) refl
  where
    few : length (take 65536 bytes) ≤ 65536
    few = omega (arith, length-take 65536 bytes)

item_fits : (f : Form) (fields : List Field) (o n : ℕ) (bytes : List ℕ) (item : Line) → IsLine f fields o n bytes item → LineFits fields item
item_fits f fields o n bytes (good row) h = in_fits f fields bytes row h.spells
item_fits f fields o n bytes (bad row fault) h = ap (row_fits line_fields) h.1 ∙ line_fits bytes

items_fit : (f : Form) (fields : List Field) (o n : ℕ) (lines : List (List ℕ)) (items : List Line) → AreLinesFrom f fields o n lines items → AllByRecursion (LineFits fields) items
items_fit f fields o n [] [] h = tt
items_fit f fields o n [] (item ∷ items) h = absurd h
items_fit f fields o n (bytes ∷ lines) [] h = absurd h
items_fit f fields o n (bytes ∷ lines) (item ∷ items) h = (item_fits f fields o n bytes item h.0, items_fit f fields o (suc n) lines items h.1)

-- an export's faults have its number
faults_numbered : (o : ℕ) (b : Bool) (r : Row) → fault_where b (unwritable o r) ≡ map (at_op o) (fault_where b (unwritable o r))
faults_numbered o true r = refl
faults_numbered o false r = refl

module _ (files : FileMap) (c : Chart) (o : ℕ) where
  of_kind : (k : OpKind) (op : Op) → IsOp files c o k op → IsOfKind o k (parts_of c o) (widths_into c o) op
  of_kind (kind.Import name schema delim fixed reject) op h = (h.1, beyond o h.0, items_fit (form delim fixed) schema o 1 _ h.1 h.3, h.4)
  of_kind (kind.Export name delim fixed) op h = (export_faults o (form delim fixed) (fields_of c (input_of c o)), h)
  of_kind kind.Copy op h = h
  of_kind (kind.Filter test reject) op h = h
  of_kind (kind.Transform sets reject) op h = h
  of_kind (kind.Modify keep drop rename) op h = h
  of_kind (kind.Switch on cases reject) op h = h
  of_kind (kind.Tsort key) op h = h
  of_kind (kind.Remdup key last) op h = h
  of_kind (kind.Group key hash results) op h = h
  of_kind (kind.InnerJoin key) op h = h
  of_kind (kind.LeftOuterJoin key) op h = h
  of_kind (kind.RightOuterJoin key) op h = h
  of_kind (kind.FullOuterJoin key) op h = h
  of_kind (kind.Lookup key missing) op h = h
  of_kind k op h = absurd h

  sink_is : (k : OpKind) (op : Op) → IsOp files c o k op → IsExport k → op ≡ by_row (sink_rule (λ r. map (at_op o) (unwritable_by c o k r)))
  sink_is (kind.Export name delim fixed) op h e = h ∙ ap (λ f. by_row (sink_rule f)) same
    where
      same : export_faults o (form delim fixed) (fields_of c (input_of c o)) ≡ (λ r. map (at_op o) (export_faults o (form delim fixed) (fields_of c (input_of c o)) r))
      same = λ i r. faults_numbered o (is_refused (form delim fixed) (fields_of c (input_of c o)) r) r i
  sink_is k op h e = absurd e

  fits_degree : (nodes : ℕ) (k : OpKind) (op : Op) (m : Mark) (stored : Option Stored) → IsOp files c o k op → MarkFits k m → FitsDegree op (degree nodes m stored)
  fits_degree nodes (kind.Import name schema delim fixed reject) op m stored h f = subst (λ (z : Op). FitsDegree z (degree nodes m stored)) (sym h.4) (ap (λ (z : Mark). degree nodes z stored) f)
  fits_degree nodes (kind.Export name delim fixed) op m stored h f = subst (λ (z : Op). FitsDegree z (degree nodes m stored)) (sym h) tt
  fits_degree nodes kind.Copy op m stored h f = subst (λ (z : Op). FitsDegree z (degree nodes m stored)) (sym h) tt
  fits_degree nodes (kind.Filter test reject) op m stored h f = subst (λ (z : Op). FitsDegree z (degree nodes m stored)) (sym h) tt
  fits_degree nodes (kind.Transform sets reject) op m stored h f = subst (λ (z : Op). FitsDegree z (degree nodes m stored)) (sym h) tt
  fits_degree nodes (kind.Modify keep drop rename) op m stored h f = subst (λ (z : Op). FitsDegree z (degree nodes m stored)) (sym h) tt
  fits_degree nodes (kind.Switch on cases reject) op m stored h f = subst (λ (z : Op). FitsDegree z (degree nodes m stored)) (sym h) tt
  fits_degree nodes (kind.Tsort key) op m stored h f = subst (λ (z : Op). FitsDegree z (degree nodes m stored)) (sym h) tt
  fits_degree nodes (kind.Remdup key last) op m stored h f = subst (λ (z : Op). FitsDegree z (degree nodes m stored)) (sym h) tt
  fits_degree nodes (kind.Group key hash results) op m stored h f = subst (λ (z : Op). FitsDegree z (degree nodes m stored)) (sym h) tt
  fits_degree nodes (kind.InnerJoin key) op m stored h f = subst (λ (z : Op). FitsDegree z (degree nodes m stored)) (sym h) tt
  fits_degree nodes (kind.LeftOuterJoin key) op m stored h f = subst (λ (z : Op). FitsDegree z (degree nodes m stored)) (sym h) tt
  fits_degree nodes (kind.RightOuterJoin key) op m stored h f = subst (λ (z : Op). FitsDegree z (degree nodes m stored)) (sym h) tt
  fits_degree nodes (kind.FullOuterJoin key) op m stored h f = subst (λ (z : Op). FitsDegree z (degree nodes m stored)) (sym h) tt
  fits_degree nodes (kind.Lookup key missing) op m stored h f = subst (λ (z : Op). FitsDegree z (degree nodes m stored)) (sym h) tt
  fits_degree nodes k op m stored h f = absurd h

  is_file : (p : ℕ) (k : OpKind) (op : Op) → IsOp files c o k op → IsFileOf op p (source_items op)
  is_file p (kind.Import name schema delim fixed reject) op h = subst (λ (z : Op). IsFileOf z p (source_items z)) (sym h.4) refl
  is_file p (kind.Export name delim fixed) op h = subst (λ (z : Op). IsFileOf z p (source_items z)) (sym h) tt
  is_file p kind.Copy op h = subst (λ (z : Op). IsFileOf z p (source_items z)) (sym h) tt
  is_file p (kind.Filter test reject) op h = subst (λ (z : Op). IsFileOf z p (source_items z)) (sym h) tt
  is_file p (kind.Transform sets reject) op h = subst (λ (z : Op). IsFileOf z p (source_items z)) (sym h) tt
  is_file p (kind.Modify keep drop rename) op h = subst (λ (z : Op). IsFileOf z p (source_items z)) (sym h) tt
  is_file p (kind.Switch on cases reject) op h = subst (λ (z : Op). IsFileOf z p (source_items z)) (sym h) tt
  is_file p (kind.Tsort key) op h = subst (λ (z : Op). IsFileOf z p (source_items z)) (sym h) tt
  is_file p (kind.Remdup key last) op h = subst (λ (z : Op). IsFileOf z p (source_items z)) (sym h) tt
  is_file p (kind.Group key hash results) op h = subst (λ (z : Op). IsFileOf z p (source_items z)) (sym h) tt
  is_file p (kind.InnerJoin key) op h = subst (λ (z : Op). IsFileOf z p (source_items z)) (sym h) tt
  is_file p (kind.LeftOuterJoin key) op h = subst (λ (z : Op). IsFileOf z p (source_items z)) (sym h) tt
  is_file p (kind.RightOuterJoin key) op h = subst (λ (z : Op). IsFileOf z p (source_items z)) (sym h) tt
  is_file p (kind.FullOuterJoin key) op h = subst (λ (z : Op). IsFileOf z p (source_items z)) (sym h) tt
  is_file p (kind.Lookup key missing) op h = subst (λ (z : Op). IsFileOf z p (source_items z)) (sym h) tt
  is_file p k op h = absurd h

  unstored : (k : OpKind) (op : Op) (m : Mark) → IsOp files c o k op → MarkFits k m → m ≡ mark.Stored → ⊥
  unstored (kind.Import name schema delim fixed reject) op m h f e = seq_unstored (sym f ∙ e)
    where
      seq_unstored : mark.Seq ≡ mark.Stored → ⊥
      seq_unstored e = cc
  unstored (kind.Export name delim fixed) op m h f e = seq_unstored (sym f ∙ e)
    where
      seq_unstored : mark.Seq ≡ mark.Stored → ⊥
      seq_unstored e = cc
  unstored (kind.Dsread ds) op m h f e = absurd h
  unstored k op m h f e = f e

pub sources_have_files : SourcesHaveFiles
sources_have_files c degree ops o p h q e = ap (items_on ops) (at_file_link (link_count c) o)

pub flows_can_be_played : FlowsCanBePlayed
flows_can_be_played regains files flow dict c states choices nodes ops whole fed a are = record {
  shaped = record { shape = a.shape; shape_of = a.shape_of; kinds = λ o h. of_kind files c o (op_at c o).kind (ops o) (a.meaning.ops_are o h) };
  accepted = a.accepted;
  means = a.meaning.means;
  outs = a.outs;
  sinks = λ o h e. sink_is files c o (op_at c o).kind (ops o) (a.meaning.ops_are o h) e;
  fit = nodes_fit c choices nodes a.accepted.choices_are a.some (λ o h. unstored files c o (op_at c o).kind (ops o) (op_at c o).mark (a.meaning.ops_are o h) (mark_at o h)) a.joins;
  degrees = λ o h. fits_degree files c o nodes (op_at c o).kind (ops o) (op_at c o).mark _ (a.meaning.ops_are o h) (mark_at o h);
  files = λ o p h q e. subst (IsFileOf (ops o) p) (sym (are o p h q e)) (is_file files c o p (op_at c o).kind (ops o) (a.meaning.ops_are o h));
}
  where
    mark_at : (o : ℕ) → o < length c.flow.ops → MarkFits (op_at c o).kind (op_at c o).mark
    mark_at o h = all_at (λ (s : OpSpec). MarkFits s.kind s.mark) c.flow.ops o no_op (subst KeepsMarks (sym a.shape_of.same) a.marks) h

pub accepted_is_chosen : AcceptedIsChosen
accepted_is_chosen regains files flow dict c states choices nodes ops whole a = record {
  shape = a.shape;
  shape_of = a.shape_of;
  marks = a.marks;
  outs = a.outs;
  accepted = written_accepted regains c states choices a.shape a.verdict;
  some = a.some;
  joins = a.joins;
  meaning = a.meaning;
}
