-- Operators by rows and by keys make rows that fit of rows that fit.
use Rattle.std.proofs.Common.{◌≡◌, ℕ, zero, suc, Bool, true, List, [], ◌∷◌, length, sym, ap, subst, ◌∙◌}
use Rattle.std.specs.List.{AllByRecursion}
use Rattle.std.proofs.lemmas.List.Elements.{recursion_from_All}
use Rattle.ds_schema.specs.declared.schema.Field.{Field}
use Rattle.ds_schema.specs.Rows.{ways}
use Rattle.ds_schema.specs.Schemas.{IsField, row_fits}
use Rattle.op_base.specs.Columns.{Lies, Row, all_columns}
use Rattle.op_base.specs.Keyed.{get_keys}
use Rattle.op_base.proofs.All.{all_map, map_two}
use Rattle.op_row.proofs.Short.{row_is_short}
use Rattle.flow_graph.specs.declared.op_kind.OpKind.{OpKind}
use Rattle.flow_graph.specs.declared.op_kind.OpKind.TheVariants as kind
use Rattle.flow_graph.specs.declared.parts.OpParts.{OpParts}
use Rattle.flow_graph.specs.Charts.{Chart, cols_at, first_fields as fields_into, link_at, links_into, op_at, parts_of}
use Rattle.flow_graph.specs.Fitting.{FitsFields}
use Rattle.flow_graph.specs.FlowShape.{ColumnsLie}
use Rattle.flow_graph.specs.Operators.{Op}
use Rattle.flow_graph.specs.RowRules.{row_rule}
use Rattle.flow_graph.specs.Runs.{result_on}
use Rattle.flow_ops.specs.Keyed.{aggs_of}
use Rattle.flow_ops.specs.Kept.{GivesFields, InputsFit, SumsFit}
use Rattle.keyed_shape.specs.Keyed.{result_causes}
use Rattle.op_shape.specs.Options.{IsKeyed, both_keys, output_fields}
use Rattle.shape_base.specs.Fields.{first_fields, second_fields}
use Rattle.shape_base.specs.Naming.{key_cause}
use Rattle.shape_base.proofs.Firsts.{none_head}
use Rattle.flow_shape.specs.Refusals.{fields_at, inputs_at}
use Rattle.flow_sound.specs.Fitting.{ColumnsSuit, KeyedRowsStay, RowsFit, RowsStay}
use Rattle.flow_sound.specs.Kinds.{IsOfKind}
use Rattle.flow_ops.specs.Kinds.{widths_into}
use Rattle.flow_sound.proofs.ByRow.{one_input, rows_fit, works_at}
use Rattle.flow_sound.proofs.Fitting.{given_there}
use Rattle.flow_sound.proofs.Groups.{sums_fit}
use Rattle.flow_sound.proofs.Joins.{same_ways}
use Rattle.flow_sound.proofs.KeyedOps.{EachFits, WorksByKey, first_input, keyed_at, keyed_gives}
use Rattle.flow_sound.proofs.Order.{leaves_it}

-- texts of rows that fit a schema are short
all_short : (fields : List Field) (rows : List Row) → AllByRecursion IsField fields → RowsFit fields rows → AllByRecursion (FitsFields fields) rows
all_short fields rows s h = all_map (λ (r : Row). row_fits fields r ≡ true) (FitsFields fields) (λ r e. (e, row_is_short fields r s e)) rows h

pub rows_stay : RowsStay
rows_stay flow dict c s f o b k l i r h =
    let leaves = leaves_it c o l i in
    let given = given_there c o l (f.schemas.fits o b) leaves.1 leaves.0 ∙ ap (λ ins. output_fields (op_at c o).kind ins (link_at c l).out) (one_input c o s b k) in
    let made = (row_rule o (op_at c o).kind (parts_of c o)).rows (link_at c l).out r in
    all_short (fields_at c l) made (s.links l leaves.1).schema.each
    (subst (λ fs. RowsFit fs made) (sym given) (rows_fit o (op_at c o).kind (fields_into c o) (parts_of c o) k (works_at flow dict c s f o b k) (link_at c l).out r h.0))

-- ---- groups, joins and lookups

inputs_each : (ins : List (List Field)) (inputs : List (List Row)) → InputsFit ins inputs → EachFits ins inputs
inputs_each [] [] h i = tt
inputs_each [] (rows ∷ inputs) h i = absurd h
inputs_each (fields ∷ ins) [] h i = absurd h
inputs_each (fields ∷ ins) (rows ∷ inputs) h zero = all_map (FitsFields fields) (λ (r : Row). row_fits fields r ≡ true) (λ r e. e.0) rows (recursion_from_All (FitsFields fields) rows h.0)
inputs_each (fields ∷ ins) (rows ∷ inputs) h (suc i) = inputs_each ins inputs h.1 i

one_way : (key : List (List ℕ × Bool)) (ins : List (List Field)) (parts : OpParts) → parts.keys ≡ both_keys key ins → ways (get_keys parts.keys 0) ≡ ways (get_keys parts.keys 1)
one_way key ins parts e = subst (λ ks. ways (get_keys ks 0) ≡ ways (get_keys ks 1)) (sym e) (sym (same_ways key (first_fields ins) (second_fields ins)))

columns_suit : (k : OpKind) (parts : OpParts) (ins : List (List Field)) → IsKeyed k → WorksByKey k ins parts → Lies parts.cols (all_columns (length (first_fields ins))) → ColumnsSuit (first_fields ins) k parts
columns_suit (kind.Group key hash results) parts ins b w l =
    let fields = first_fields ins in
    (l, subst (λ (p : OpParts). AllByRecursion (SumsFit fields) (aggs_of results p.cols)) (sym w.parts_are) (sums_fit fields results (none_head (key_cause key fields) (result_causes results fields) w.sound).1))
columns_suit (kind.InnerJoin key) parts ins b w l = one_way key ins parts (ap (λ (p : OpParts). p.keys) w.parts_are)
columns_suit (kind.LeftOuterJoin key) parts ins b w l = one_way key ins parts (ap (λ (p : OpParts). p.keys) w.parts_are)
columns_suit (kind.RightOuterJoin key) parts ins b w l = one_way key ins parts (ap (λ (p : OpParts). p.keys) w.parts_are)
columns_suit (kind.FullOuterJoin key) parts ins b w l = one_way key ins parts (ap (λ (p : OpParts). p.keys) w.parts_are)
columns_suit (kind.Lookup key missing) parts ins b w l = one_way key ins parts (ap (λ (p : OpParts). p.keys) w.parts_are)
columns_suit k parts ins b w l = absurd b

columns_lie : (c : Chart) (o : ℕ) (k : OpKind) → IsKeyed k → ColumnsLie c o k → Lies (cols_at c o) (all_columns (length (fields_into c o)))
columns_lie c o (kind.Group key hash results) b h = h
columns_lie c o (kind.InnerJoin key) b h = h
columns_lie c o (kind.LeftOuterJoin key) b h = h
columns_lie c o (kind.RightOuterJoin key) b h = h
columns_lie c o (kind.FullOuterJoin key) b h = h
columns_lie c o (kind.Lookup key missing) b h = h
columns_lie c o k b h = absurd b

pub keyed_rows_stay : KeyedRowsStay
keyed_rows_stay flow dict c s f o b k = (suit, gives)
  where
    works : WorksByKey (op_at c o).kind (inputs_at c o) (parts_of c o)
    works = keyed_at flow dict c s f o b k

    first : first_fields (inputs_at c o) ≡ fields_into c o
    first = first_input c o k works

    suit : ColumnsSuit (fields_into c o) (op_at c o).kind (parts_of c o)
    suit =
        subst (λ fs. ColumnsSuit fs (op_at c o).kind (parts_of c o)) first
        (columns_suit (op_at c o).kind (parts_of c o) (inputs_at c o) k works (subst (λ (fs : List Field). Lies (cols_at c o) (all_columns (length fs))) (sym first) (columns_lie c o (op_at c o).kind k (s.ops o b).columns)))

    gives : (op : Op) → IsOfKind o (op_at c o).kind (parts_of c o) (widths_into c o) op → GivesFields c o op
    gives op is l i inputs h =
        let leaves = leaves_it c o l i in
        let made = result_on op (link_at c l).out 0 inputs in
        let of = subst (λ ws. IsOfKind o (op_at c o).kind (parts_of c o) ws op) (sym (map_two (fields_at c) length (links_into c o))) is in
        all_short (fields_at c l) made (s.links l leaves.1).schema.each
        (subst (λ fs. RowsFit fs made) (sym (given_there c o l (f.schemas.fits o b) leaves.1 leaves.0))
        (keyed_gives o (op_at c o).kind (parts_of c o) (inputs_at c o) op (link_at c l).out inputs k of works (inputs_each (inputs_at c o) inputs h)).1)
