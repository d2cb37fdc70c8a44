-- What is read suits a run.
use Rattle.std.proofs.Common.{◌≡◌, ◌<◌, ℕ, zero, suc, Bool, true, false, cond, List, [], ◌∷◌, ◌++◌, All, map, flat_map, get_or, length, refl, sym, ap, ap₂, ◌∙◌, subst}
use Rattle.flow_files.specs.declared.tally.Tally.{Tally}
use Rattle.std.specs.List.{AllByRecursion}
use Rattle.std.proofs.lemmas.Grind.{flat_map-append}
use Rattle.std.proofs.lemmas.List.{append-nil}
use Rattle.std.proofs.lemmas.List.Elements.{All-from_recursion}
use Rattle.ds_schema.specs.declared.schema.Field.{Field}
use Rattle.ds_schema.specs.Schemas.{row_fits}
use Rattle.ds_port.specs.FileMap.{FileMap}
use Rattle.ds_text.specs.declared.form.Form.{Form}
use Rattle.ds_text.proofs.RecordProofs.{in_fits}
use Rattle.op_base.specs.Columns.{IsIn, Row}
use Rattle.op_base.specs.Keyed.{get_keys}
use Rattle.op_base.specs.Meanings.{Line, good, bad, line_rows}
use Rattle.op_base.specs.RowOperators.{copy_rule, sink_rule}
use Rattle.op_base.proofs.All.{all_append}
use Rattle.op_join.specs.declared.kind.JoinKind.TheVariants.{Inner, Left, Right, Full}
use Rattle.flow_files.specs.Lines.{AreLinesFrom, IsLine, bad_record, beyond}
use Rattle.flow_files.specs.Texts.{export_faults}
use Rattle.flow_graph.specs.declared.op_kind.OpKind.{OpKind}
use Rattle.flow_graph.specs.declared.op_kind.OpKind.TheVariants as kind
use Rattle.flow_graph.specs.declared.parts.OpParts.{OpParts}
use Rattle.flow_graph.specs.Charts.{Chart, link_at, links_from, op_at, parts_of}
use Rattle.flow_graph.specs.Fitting.{FitsFields}
use Rattle.flow_graph.specs.FlowShape.{IsShape}
use Rattle.flow_graph.specs.Operators.{Op, by_row, group, import, remdup, result, tsort}
use Rattle.flow_graph.specs.RowRules.{row_rule}
use Rattle.op_shape.specs.Options.{line_fields, output_fields}
use Rattle.shape_base.specs.Fields.{made_or_rejected}
use Rattle.flow_shape.specs.Refusals.{IsShapeOf, fields_at, inputs_at}
use Rattle.flow_ops.specs.Keyed.{group_of}
use Rattle.flow_sound.specs.Kinds.{AreOfKinds, IsOfKind, LineFits}
use Rattle.flow_sound.proofs.Fitting.{given_there}
use Rattle.flow_sound.proofs.Order.{leaves_it}
use Rattle.flow_ops.specs.Kinds.{joined_by, looked_by, widths_into}
use Rattle.list_run.specs.Runnable.{OpIs}
use Rattle.osh_ends.specs.Built.{is_built, is_built_op}
use Rattle.flow_rules.specs.Exports.{input_of}
use Rattle.osh_ends.specs.FlowFiles.{IsOp, fields_of, form}
use Rattle.run_feed.specs.Sources.{AllSuit, CanFeed, ReadTo, RowsSuit, Sourced, on_output, rows_on, rows_read}
use Rattle.run_feed.proofs.Ready.{built_at}
use Rattle.run_feed.proofs.Rows.{line_fits}

-- ---- rows

on_rows : (schema : List Field) (q : ℕ) (rows rejected : List Row) → AllByRecursion (FitsFields schema) rows → AllByRecursion (FitsFields line_fields) rejected → AllByRecursion (FitsFields (made_or_rejected schema line_fields q)) (on_output q rows rejected)
on_rows schema zero rows rejected h k = h
on_rows schema (suc q) rows rejected h k = k

on_none : (fields : List Field) (q : ℕ) (rows rejected : List Row) → (rows ≡ []) × (rejected ≡ []) → AllByRecursion (FitsFields fields) (on_output q rows rejected)
on_none fields zero rows rejected e = subst (AllByRecursion (FitsFields fields)) (sym e.0) tt
on_none fields (suc q) rows rejected e = subst (AllByRecursion (FitsFields fields)) (sym e.1) tt

rows_by : (k : OpKind) (ins : List (List Field)) (q : ℕ) (fields : List Field) (rows rejected : List Row) → is_built_op k ≡ true → fields ≡ output_fields k ins q → RowsSuit k rows rejected → AllByRecursion (FitsFields fields) (on_output q rows rejected)
rows_by (kind.Import file schema delim fixed reject) ins q fields rows rejected b e h = subst (λ fs. AllByRecursion (FitsFields fs) (on_output q rows rejected)) (sym e) (on_rows schema q rows rejected h.0 h.1)
rows_by (kind.Export file delim fixed) ins q fields rows rejected b e h = on_none fields q rows rejected h
rows_by kind.Copy ins q fields rows rejected b e h = on_none fields q rows rejected h
rows_by (kind.Filter test reject) ins q fields rows rejected b e h = on_none fields q rows rejected h
rows_by (kind.Transform set reject) ins q fields rows rejected b e h = on_none fields q rows rejected h
rows_by (kind.Modify keep drop rename) ins q fields rows rejected b e h = on_none fields q rows rejected h
rows_by (kind.Switch on cases reject) ins q fields rows rejected b e h = on_none fields q rows rejected h
rows_by (kind.Tsort key) ins q fields rows rejected b e h = on_none fields q rows rejected h
rows_by (kind.Remdup key last) ins q fields rows rejected b e h = on_none fields q rows rejected h
rows_by (kind.Group key hash results) ins q fields rows rejected b e h = on_none fields q rows rejected h
rows_by (kind.InnerJoin key) ins q fields rows rejected b e h = on_none fields q rows rejected h
rows_by (kind.LeftOuterJoin key) ins q fields rows rejected b e h = on_none fields q rows rejected h
rows_by (kind.RightOuterJoin key) ins q fields rows rejected b e h = on_none fields q rows rejected h
rows_by (kind.FullOuterJoin key) ins q fields rows rejected b e h = on_none fields q rows rejected h
rows_by (kind.Lookup key missing) ins q fields rows rejected b e h = on_none fields q rows rejected h
rows_by k ins q fields rows rejected b e h = cc

pub link_rows : (c : Chart) (rows rejected : List (List Row)) (l : ℕ) → IsShape c → IsShapeOf c.flow [] c → is_built c.flow ≡ true → AllSuit c (length c.flow.ops) rows rejected → l < length c.flow.links → All (FitsFields (fields_at c l)) (rows_on c rows rejected l)
link_rows c rows rejected l s f u suits h =
    let o = (link_at c l).from in
    let b = (s.links l h).from in
    All-from_recursion (FitsFields (fields_at c l)) (rows_on c rows rejected l)
    (rows_by (op_at c o).kind (inputs_at c o) (link_at c l).out (fields_at c l) (get_or rows o []) (get_or rejected o []) (built_at c u o b) (given_there c o l (f.schemas.fits o b) h refl) (suits o b))

-- ---- operators of such rows

-- a line that was rejected with this row, whatever its fault were
abbrev rejected_as : Row → Line
rejected_as row = bad row (bad_record 0 0 [])

abbrev lines_for : List Row → List Row → List Line
lines_for rows rejected = map good rows ++ map rejected_as rejected

op_for : ℕ → OpKind → OpParts → List ℕ → List Row → List Row → Op
op_for o (kind.Import file schema delim fixed reject) parts widths rows rejected = import (lines_for rows rejected) reject []
op_for o (kind.Export file delim fixed) parts widths rows rejected = by_row (sink_rule (λ r. []))
op_for o (kind.Filter test reject) parts widths rows rejected = by_row (row_rule o (kind.Filter test reject) parts)
op_for o (kind.Transform set reject) parts widths rows rejected = by_row (row_rule o (kind.Transform set reject) parts)
op_for o (kind.Modify keep drop rename) parts widths rows rejected = by_row (row_rule o (kind.Modify keep drop rename) parts)
op_for o (kind.Switch on cases reject) parts widths rows rejected = by_row (row_rule o (kind.Switch on cases reject) parts)
op_for o (kind.Tsort key) parts widths rows rejected = tsort (get_keys parts.keys 0)
op_for o (kind.Remdup key last) parts widths rows rejected = remdup last (get_keys parts.keys 0)
op_for o (kind.Group key hash results) parts widths rows rejected = group (group_of o hash results parts)
op_for o (kind.InnerJoin key) parts widths rows rejected = joined_by Inner parts widths
op_for o (kind.LeftOuterJoin key) parts widths rows rejected = joined_by Left parts widths
op_for o (kind.RightOuterJoin key) parts widths rows rejected = joined_by Right parts widths
op_for o (kind.FullOuterJoin key) parts widths rows rejected = joined_by Full parts widths
op_for o (kind.Lookup key missing) parts widths rows rejected = looked_by o missing parts widths
op_for o k parts widths rows rejected = by_row copy_rule

good_fit : (schema : List Field) (rows : List Row) → AllByRecursion (FitsFields schema) rows → AllByRecursion (LineFits schema) (map good rows)
good_fit schema [] h = tt
good_fit schema (r ∷ rows) h = (h.0.0, good_fit schema rows h.1)

rejected_fit : (schema : List Field) (rows : List Row) → AllByRecursion (FitsFields line_fields) rows → AllByRecursion (LineFits schema) (map rejected_as rows)
rejected_fit schema [] h = tt
rejected_fit schema (r ∷ rows) h = (h.0.0, rejected_fit schema rows h.1)

good_rows : (q : ℕ) (rejects : Bool) (rows : List Row) → flat_map (line_rows q rejects) (map good rows) ≡ on_output q rows []
good_rows zero rejects [] = refl
good_rows zero rejects (r ∷ rows) = ap (λ rs. r ∷ rs) (good_rows zero rejects rows)
good_rows (suc q) rejects [] = refl
good_rows (suc q) rejects (r ∷ rows) = good_rows (suc q) rejects rows

no_rows : (rejects : Bool) (rows : List Row) → flat_map (line_rows 0 rejects) (map rejected_as rows) ≡ []
no_rows rejects [] = refl
no_rows rejects (r ∷ rows) = no_rows rejects rows

all_rejected : (q : ℕ) (rows : List Row) → flat_map (line_rows (suc q) true) (map rejected_as rows) ≡ rows
all_rejected q [] = refl
all_rejected q (r ∷ rows) = ap (λ rs. r ∷ rs) (all_rejected q rows)

rejected_rows : (q : ℕ) (rejects : Bool) (rows : List Row) → (rejects ≡ false → rows ≡ []) → flat_map (line_rows q rejects) (map rejected_as rows) ≡ on_output q [] rows
rejected_rows zero rejects rows n = no_rows rejects rows
rejected_rows (suc q) true rows n = all_rejected q rows
rejected_rows (suc q) false rows n = ap (λ rs. flat_map (line_rows (suc q) false) (map rejected_as rs)) (n refl) ∙ sym (n refl)

output_parts : (q : ℕ) (rows rejected : List Row) → on_output q rows [] ++ on_output q [] rejected ≡ on_output q rows rejected
output_parts zero rows rejected = append-nil rows
output_parts (suc q) rows rejected = refl

lines_give : (q : ℕ) (rejects : Bool) (rows rejected : List Row) → (rejects ≡ false → rejected ≡ []) → flat_map (line_rows q rejects) (lines_for rows rejected) ≡ on_output q rows rejected
lines_give q rejects rows rejected n = flat_map-append (line_rows q rejects) (map good rows) (map rejected_as rejected) ∙ ap₂ (λ a b. a ++ b) (good_rows q rejects rows) (rejected_rows q rejects rejected n) ∙ output_parts q rows rejected

for_kind : (o : ℕ) (k : OpKind) (parts : OpParts) (widths : List ℕ) (rows rejected : List Row) → is_built_op k ≡ true → RowsSuit k rows rejected → IsOfKind o k parts widths (op_for o k parts widths rows rejected)
unfolding op_for
for_kind o (kind.Import file schema delim fixed reject) parts widths rows rejected b h =
    (lines_for rows rejected, [], all_append (LineFits schema) (map good rows) (map rejected_as rejected) (good_fit schema rows h.0) (rejected_fit schema rejected h.1), refl)
for_kind o (kind.Export file delim fixed) parts widths rows rejected b h = (λ r. [], refl)
for_kind o kind.Copy parts widths rows rejected b h = refl
for_kind o (kind.Filter test reject) parts widths rows rejected b h = refl
for_kind o (kind.Transform set reject) parts widths rows rejected b h = refl
for_kind o (kind.Modify keep drop rename) parts widths rows rejected b h = refl
for_kind o (kind.Switch on cases reject) parts widths rows rejected b h = refl
for_kind o (kind.Tsort key) parts widths rows rejected b h = refl
for_kind o (kind.Remdup key last) parts widths rows rejected b h = refl
for_kind o (kind.Group key hash results) parts widths rows rejected b h = refl
for_kind o (kind.InnerJoin key) parts widths rows rejected b h = refl
for_kind o (kind.LeftOuterJoin key) parts widths rows rejected b h = refl
for_kind o (kind.RightOuterJoin key) parts widths rows rejected b h = refl
for_kind o (kind.FullOuterJoin key) parts widths rows rejected b h = refl
for_kind o (kind.Lookup key missing) parts widths rows rejected b h = refl
for_kind o k parts widths rows rejected b h = cc

-- what is on the links that leave an operator
abbrev OnLinks : Chart → List (List Row) → ℕ → List Row → List Row → Type 0
OnLinks c sources o rows rejected = (l : ℕ) → IsIn l (links_from c o) → get_or sources l [] ≡ on_output (link_at c l).out rows rejected

for_links : (c : Chart) (sources : List (List Row)) (o : ℕ) (k : OpKind) (rows rejected : List Row) → is_built_op k ≡ true → RowsSuit k rows rejected → OnLinks c sources o rows rejected → OpIs c sources o (op_for o k (parts_of c o) (widths_into c o) rows rejected) k
unfolding op_for
for_links c sources o (kind.Import file schema delim fixed reject) rows rejected b s h = ((lines_for rows rejected, reject, [], refl), λ l i. lines_give (link_at c l).out reject rows rejected s.2 ∙ sym (h l i))
for_links c sources o (kind.Export file delim fixed) rows rejected b s h = (λ r. [], refl)
for_links c sources o kind.Copy rows rejected b s h = refl
for_links c sources o (kind.Filter test reject) rows rejected b s h = refl
for_links c sources o (kind.Transform set reject) rows rejected b s h = refl
for_links c sources o (kind.Modify keep drop rename) rows rejected b s h = refl
for_links c sources o (kind.Switch on cases reject) rows rejected b s h = refl
for_links c sources o (kind.Tsort key) rows rejected b s h = refl
for_links c sources o (kind.Remdup key last) rows rejected b s h = refl
for_links c sources o (kind.Group key hash results) rows rejected b s h = refl
for_links c sources o (kind.InnerJoin key) rows rejected b s h = refl
for_links c sources o (kind.LeftOuterJoin key) rows rejected b s h = refl
for_links c sources o (kind.RightOuterJoin key) rows rejected b s h = refl
for_links c sources o (kind.FullOuterJoin key) rows rejected b s h = refl
for_links c sources o (kind.Lookup key missing) rows rejected b s h = refl
for_links c sources o k rows rejected b s h = cc

on_links : (c : Chart) (rows rejected sources : List (List Row)) → ((l : ℕ) → l < length c.flow.links → get_or sources l [] ≡ rows_on c rows rejected l) → (o : ℕ) → OnLinks c sources o (get_or rows o []) (get_or rejected o [])
on_links c rows rejected sources each o l i =
    let leaves = leaves_it c o l i in
    each l leaves.1 ∙ ap (λ p. on_output (link_at c l).out (get_or rows p []) (get_or rejected p [])) leaves.0

pub can_feed : (c : Chart) (rows rejected sources : List (List Row)) → IsShape c → IsShapeOf c.flow [] c → is_built c.flow ≡ true → AllSuit c (length c.flow.ops) rows rejected
    → length sources ≡ length c.flow.links → ((l : ℕ) → l < length c.flow.links → get_or sources l [] ≡ rows_on c rows rejected l) → CanFeed c sources
can_feed c rows rejected sources s f u suits given each = record {
  given = given;
  rows = λ l h. subst (All (FitsFields (fields_at c l))) (sym (each l h)) (link_rows c rows rejected l s f u suits h);
  kinds = (
    λ o. op_for o (op_at c o).kind (parts_of c o) (widths_into c o) (get_or rows o []) (get_or rejected o []),
    λ o h. for_kind o (op_at c o).kind (parts_of c o) (widths_into c o) (get_or rows o []) (get_or rejected o []) (built_at c u o h) (suits o h),
    λ o h. for_links c sources o (op_at c o).kind (get_or rows o []) (get_or rejected o []) (built_at c u o h) (suits o h) (on_links c rows rejected sources each o),
  );
}

-- ---- operators of files

-- what is on output 1 is on each output behind it
later_rows : (q : ℕ) (rejects : Bool) (lines : List Line) → flat_map (line_rows (suc q) rejects) lines ≡ flat_map (line_rows 1 rejects) lines
later_rows q rejects [] = refl
later_rows q rejects (good r ∷ lines) = later_rows q rejects lines
later_rows q rejects (bad r f ∷ lines) = ap (λ rs. cond rejects (r ∷ []) [] ++ rs) (later_rows q rejects lines)

on_lines : (q : ℕ) (rejects : Bool) (lines : List Line) → flat_map (line_rows q rejects) lines ≡ on_output q (flat_map (line_rows 0 rejects) lines) (flat_map (line_rows 1 rejects) lines)
on_lines zero rejects lines = refl
on_lines (suc q) rejects lines = later_rows q rejects lines

op_is : (files : FileMap) (c : Chart) (sources : List (List Row)) (o : ℕ) (k : OpKind) (op : Op) (rows rejected : List Row) → is_built_op k ≡ true → IsOp files c o k op → rows ≡ rows_read 0 k op → rejected ≡ rows_read 1 k op → OnLinks c sources o rows rejected → OpIs c sources o op k
op_is files c sources o (kind.Import file schema delim fixed reject) op rows rejected b h e f on =
    let lines = h.1 in
    let is = h.4 in (
      (lines, reject, beyond o h.0, is),
      λ l i. ap (λ p. result p (link_at c l).out []) is ∙ on_lines (link_at c l).out reject lines
          ∙ ap₂ (on_output (link_at c l).out) (sym (e ∙ ap (λ p. result p 0 []) is)) (sym (f ∙ ap (λ p. result p 1 []) is)) ∙ sym (on l i),
    )
op_is files c sources o (kind.Export file delim fixed) op rows rejected b h e f on = (export_faults o (form delim fixed) (fields_of c (input_of c o)), h)
op_is files c sources o kind.Copy op rows rejected b h e f on = h
op_is files c sources o (kind.Filter test reject) op rows rejected b h e f on = h
op_is files c sources o (kind.Transform set reject) op rows rejected b h e f on = h
op_is files c sources o (kind.Modify keep drop rename) op rows rejected b h e f on = h
op_is files c sources o (kind.Switch test cases reject) op rows rejected b h e f on = h
op_is files c sources o (kind.Tsort key) op rows rejected b h e f on = h
op_is files c sources o (kind.Remdup key last) op rows rejected b h e f on = h
op_is files c sources o (kind.Group key hash results) op rows rejected b h e f on = h
op_is files c sources o (kind.InnerJoin key) op rows rejected b h e f on = h
op_is files c sources o (kind.LeftOuterJoin key) op rows rejected b h e f on = h
op_is files c sources o (kind.RightOuterJoin key) op rows rejected b h e f on = h
op_is files c sources o (kind.FullOuterJoin key) op rows rejected b h e f on = h
op_is files c sources o (kind.Lookup key missing) op rows rejected b h e f on = h
op_is files c sources o k op rows rejected b h e f on = cc

item_fits : (form : Form) (fields : List Field) (o n : ℕ) (line : List ℕ) (item : Line) → IsLine form fields o n line item → LineFits fields item
item_fits form fields o n line (good row) h = in_fits form fields line row h.spells
item_fits form fields o n line (bad row fault) h = ap (row_fits line_fields) h.1 ∙ line_fits line

items_fit : (form : Form) (fields : List Field) (o n : ℕ) (lines : List (List ℕ)) (items : List Line) → AreLinesFrom form fields o n lines items → AllByRecursion (LineFits fields) items
items_fit form fields o n [] [] h = tt
items_fit form fields o n [] (item ∷ items) h = absurd h
items_fit form fields o n (line ∷ lines) [] h = absurd h
items_fit form fields o n (line ∷ lines) (item ∷ items) h = (item_fits form fields o n line item h.0, items_fit form fields o (suc n) lines items h.1)

op_of_kind : (files : FileMap) (c : Chart) (o : ℕ) (k : OpKind) (op : Op) → IsOp files c o k op → IsOfKind o k (parts_of c o) (widths_into c o) op
op_of_kind files c o (kind.Import file schema delim fixed reject) op h = (h.1, beyond o h.0, items_fit (form delim fixed) schema o 1 _ h.1 h.3, h.4)
op_of_kind files c o (kind.Export file delim fixed) op h = (export_faults o (form delim fixed) (fields_of c (input_of c o)), h)
op_of_kind files c o kind.Copy op h = h
op_of_kind files c o (kind.Filter test reject) op h = h
op_of_kind files c o (kind.Transform set reject) op h = h
op_of_kind files c o (kind.Modify keep drop rename) op h = h
op_of_kind files c o (kind.Switch on cases reject) op h = h
op_of_kind files c o (kind.Tsort key) op h = h
op_of_kind files c o (kind.Remdup key last) op h = h
op_of_kind files c o (kind.Group key hash results) op h = h
op_of_kind files c o (kind.InnerJoin key) op h = h
op_of_kind files c o (kind.LeftOuterJoin key) op h = h
op_of_kind files c o (kind.RightOuterJoin key) op h = h
op_of_kind files c o (kind.FullOuterJoin key) op h = h
op_of_kind files c o (kind.Lookup key missing) op h = h
op_of_kind files c o k op h = absurd h

pub ops_of_kinds : (files : FileMap) (c : Chart) (ops : ℕ → Op) → ((o : ℕ) → o < length c.flow.ops → IsOp files c o (op_at c o).kind (ops o)) → AreOfKinds c ops
ops_of_kinds files c ops h o b = op_of_kind files c o (op_at c o).kind (ops o) (h o b)

pub sourced : (files : FileMap) (c : Chart) (rows rejected sources : List (List Row)) (old new : Tally) → is_built c.flow ≡ true → ReadTo files c (length c.flow.ops) rows rejected old new
    → ((l : ℕ) → l < length c.flow.links → get_or sources l [] ≡ rows_on c rows rejected l) → Sourced files c sources old new
sourced files c rows rejected sources old new u t each = record {
  ops = t.ops;
  are = t.are;
  give = λ o h. op_is files c sources o (op_at c o).kind (t.ops o) (get_or rows o []) (get_or rejected o []) (built_at c u o h) (t.are o h) (t.rows_are o h) (t.rejected_are o h) (on_links c rows rejected sources each o);
  tally = t.tally;
}
