-- Operators by rows of a shaped flow have the rules that the law of flows asks, and keep rows fitting.
use Rattle.std.proofs.Common.{◌≡◌, ◌<◌, ℕ, zero, suc, ◌==◌, Bool, true, false, cond, List, [], ◌∷◌, ◌++◌, length, map, get_or, refl, sym, ap, ap₂, subst, ◌∙◌, arith, inl, Option, None}
use Rattle.std.specs.List.{AllByRecursion}
use Rattle.std.proofs.lemmas.Bool.Decides.{nat_tests}
use Rattle.std.proofs.lemmas.List.FromFn.{get_or-map-range_with_len}
use Rattle.ds_schema.specs.declared.schema.Field.{Field}
use Rattle.ds_schema.specs.Rows.{val}
use Rattle.ds_schema.specs.Schemas.{row_fits}
use Rattle.op_base.specs.Columns.{IsIn, Lies, Row, all_columns}
use Rattle.op_base.specs.RowOperators.{RowRule, filter_rule, switch_rule}
use Rattle.op_row.specs.Expressed.{input_fields, sets_rule, targets, width_after}
use Rattle.op_row.specs.Judging.{case_of, compute, judged}
use Rattle.op_row.specs.declared.setting.Set.{Set}
use Rattle.flow_graph.specs.declared.op_kind.OpKind.{OpKind}
use Rattle.flow_graph.specs.declared.op_kind.OpKind.TheVariants as kind
use Rattle.flow_graph.specs.declared.op_kind.SetSpec.{SetSpec}
use Rattle.flow_graph.specs.declared.parts.OpParts.{OpParts}
use Rattle.flow_graph.specs.declared.parts.Stored.{Stored}
use Rattle.flow_graph.specs.declared.flow.Flow.{Flow}
use Rattle.flow_graph.specs.Charts.{Chart, first_fields, first_width, kind_form, links_into, op_at, no_parts, parts_of}
use Rattle.flow_graph.specs.FlowShape.{ColumnsLie, FormPorts, IsShape}
use Rattle.flow_graph.specs.RowRules.{first_expr, numbered, row_rule, sets_of}
use Rattle.flow_graph.specs.Shapes.{PassesInto, RowShape, Wide}
use Rattle.flow_graph.proofs.RowShapes.{filter_shape, modify_shape, switch_shape, transform_shape}
use Rattle.flow_rules.specs.Exports.{input_of}
use Rattle.shape_base.specs.Causes.{first_cause}
use Rattle.shape_base.specs.Fields.{field_at, made_or_rejected}
use Rattle.op_shape.specs.Columns.{modified_fields, renamed, set_fields}
use Rattle.shape_base.proofs.Firsts.{none_both}
use Rattle.op_shape.proofs.Keeping.{modified_length}
use Rattle.op_shape.proofs.Putting.{width_is}
use Rattle.op_shape.specs.Options.{operator_parts, option_causes, output_causes, output_fields}
use Rattle.flow_shape.specs.Refusals.{IsShapeOf, fields_at, input_cause, inputs_at, kind_at, parts_at}
use Rattle.flow_sound.specs.Fitting.{IsByRow}
use Rattle.flow_sound.proofs.Members.{below_range}
use Rattle.flow_sound.proofs.Order.{enters_it}
use Rattle.flow_sound.proofs.SetRows.{wider}
use Rattle.flow_sound.proofs.Picking.{picked_fit}
use Rattle.flow_sound.proofs.Working.{Fit, KeptLie, Works, fits_long, renamed_fits, same_fit, set_row_fits, set_targets}

-- ---- rules

numbered_shape : (o : ℕ) (rule : RowRule) (w : ℕ) (outs : ℕ → ℕ) → RowShape rule w outs → RowShape (numbered o rule) w outs
numbered_shape o rule w outs s = record { wide = s.wide; passes = s.passes; one = s.one; inside = s.inside }

-- the same widths of outputs
outs_shape : (rule : RowRule) (w : ℕ) (outs others : ℕ → ℕ) → ((q : ℕ) → outs q ≡ others q) → RowShape rule w outs → RowShape rule w others
outs_shape rule w outs others e s = record {
  wide = λ q r l. subst (λ n. AllByRecursion (Wide n) (rule.rows q r)) (e q) (s.wide q r l);
  passes = s.passes;
  one = s.one;
  inside = λ q. subst (PassesInto (rule.passes q) w) (e q) (s.inside q);
}

after_first : (q : ℕ) → (suc q == 0) ≡ false
after_first q = grind (arith, nat_tests)

sets_shape : (set : List SetSpec) (reject : Bool) (fields : List Field) (parts : OpParts) → Works (kind.Transform set reject) fields parts
    → RowShape (sets_rule (sets_of set parts.cols parts.exprs) reject) (length fields) (λ q. length (made_or_rejected (set_fields fields set) fields q))
sets_shape set reject fields parts w =
    outs_shape (sets_rule sets reject) (length fields) (λ q. cond (q == 0) (width_after n ts) n) (λ q. length (made_or_rejected (set_fields fields set) fields q)) outs
    (subst (λ m. RowShape (sets_rule sets reject) m (λ q. cond (q == 0) (width_after n ts) n)) long (transform_shape n (width_after n ts) ts (compute sets) reject (wider ts n)))
  where
    sets : List Set
    sets = sets_of set parts.cols parts.exprs

    ts : List ℕ
    ts = targets sets

    n : ℕ
    n = length (input_fields sets)

    long : n ≡ length fields
    long = ap length w.exprs.4

    outs : (q : ℕ) → cond (q == 0) (width_after n ts) n ≡ length (made_or_rejected (set_fields fields set) fields q)
    outs zero = ap₂ width_after long (set_targets set reject fields parts w) ∙ width_is set fields
    outs (suc q) = ap (λ b. cond b (width_after n ts) n) (after_first q) ∙ long

kept_width : (keep drop : List (List ℕ)) (rename : List (List ℕ × List ℕ)) (fields : List Field) (parts : OpParts) → Works (kind.Modify keep drop rename) fields parts → length parts.cols ≡ length (modified_fields keep drop rename fields)
kept_width keep drop rename fields parts w =
    ap (λ (p : OpParts). length p.cols) w.parts_are ∙ sym (modified_length keep drop rename fields)

-- the rule of an operator by rows, from its input to its outputs
pub row_shape : (o : ℕ) (k : OpKind) (fields : List Field) (parts : OpParts) → IsByRow k → Works k fields parts → RowShape (row_rule o k parts) (length fields) (λ q. length (output_fields k (fields ∷ []) q))
row_shape o (kind.Filter test reject) fields parts h w = numbered_shape o (filter_rule (judged (first_expr parts)) reject) (length fields) (λ q. length fields) (filter_shape (length fields) (judged (first_expr parts)) reject)
row_shape o (kind.Transform set reject) fields parts h w = numbered_shape o (sets_rule (sets_of set parts.cols parts.exprs) reject) (length fields) (λ q. length (made_or_rejected (set_fields fields set) fields q)) (sets_shape set reject fields parts w)
row_shape o (kind.Modify keep drop rename) fields parts h w = subst (λ n. RowShape (row_rule o (kind.Modify keep drop rename) parts) (length fields) (λ q. n)) (kept_width keep drop rename fields parts w) (numbered_shape o _ (length fields) (λ q. length parts.cols) (modify_shape (length fields) parts.cols))
row_shape o (kind.Switch on cases reject) fields parts h w =
    numbered_shape o (switch_rule (length cases) (case_of (first_expr parts) cases) reject) (length fields) (λ q. length fields) (switch_shape (length fields) (length cases) (case_of (first_expr parts) cases) reject)
row_shape o k fields parts h w = absurd h

-- ---- rows

all_below : (n : ℕ) (cols : List ℕ) → Lies cols (all_columns n) → AllByRecursion (λ c. c < n) cols
all_below n [] h = tt
all_below n (c ∷ cols) h = (below_range n c h.0, all_below n cols h.1)

-- what it makes of a row that fits its input fits its outputs
pub rows_fit : (o : ℕ) (k : OpKind) (fields : List Field) (parts : OpParts) → IsByRow k → Works k fields parts → (q : ℕ) (r : Row) → row_fits fields r ≡ true → Fit (output_fields k (fields ∷ []) q) ((row_rule o k parts).rows q r)
rows_fit o (kind.Filter test reject) fields parts h w q r e =
    same_fit fields r ((row_rule o (kind.Filter test reject) parts).rows q r) e ((filter_shape (length r) (judged (first_expr parts)) reject).passes q r refl)
rows_fit o (kind.Switch on cases reject) fields parts h w q r e =
    same_fit fields r ((row_rule o (kind.Switch on cases reject) parts).rows q r) e ((switch_shape (length r) (length cases) (case_of (first_expr parts) cases) reject).passes q r refl)
rows_fit o (kind.Modify keep drop rename) fields parts h w q r e =
    let fit = picked_fit (renamed rename) (renamed_fits rename) fields r parts.cols e (all_below (length fields) parts.cols w.kept) in
    (ap (λ cs. row_fits (map (renamed rename) (map (field_at fields) cs)) (val parts.cols r)) (sym (ap (λ (p : OpParts). p.cols) w.parts_are)) ∙ fit, tt)
rows_fit o (kind.Transform set reject) fields parts h w zero r e = set_row_fits set reject fields parts r w e
rows_fit o (kind.Transform set reject) fields parts h w (suc q) r e =
    let sets = sets_of set parts.cols parts.exprs in
    let n = length (input_fields sets) in
    same_fit fields r ((row_rule o (kind.Transform set reject) parts).rows (suc q) r) e
    ((transform_shape n (width_after n (targets sets)) (targets sets) (compute sets) reject (wider (targets sets) n)).passes (suc q) r (fits_long fields r e ∙ sym (ap length w.exprs.4)))
rows_fit o k fields parts h w q r e = absurd h

-- ---- the operators of a shaped flow

pub one_link : (ls : List ℕ) → length ls ≡ 1 → ls ≡ get_or ls 0 0 ∷ []
one_link [] e = absurd (omega arith)
one_link (l ∷ []) e = refl
one_link (l ∷ (k ∷ ls)) e = absurd (omega arith)

one_port : (k : OpKind) (parts : OpParts) (stored : Option Stored) (width n : ℕ) → IsByRow k → FormPorts (kind_form k parts.keys parts.cols stored width) n → n ≡ 1
one_port (kind.Filter test reject) parts stored width n h p = p
one_port (kind.Transform set reject) parts stored width n h p = p
one_port (kind.Modify keep drop rename) parts stored width n h p = p
one_port (kind.Switch on cases reject) parts stored width n h p = p
one_port k parts stored width n h p = absurd h

pub into_by_row : (c : Chart) (o : ℕ) → IsShape c → o < length c.flow.ops → IsByRow (op_at c o).kind → links_into c o ≡ input_of c o ∷ []
into_by_row c o s b h = one_link (links_into c o) (one_port (op_at c o).kind (parts_of c o) (get_or c.stored o None) (first_width c o) (length (links_into c o)) h (s.ops o b).inputs)

pub one_input : (c : Chart) (o : ℕ) → IsShape c → o < length c.flow.ops → IsByRow (op_at c o).kind → inputs_at c o ≡ first_fields c o ∷ []
one_input c o s b h = ap (map (fields_at c)) (into_by_row c o s b h)

pub link_there : (c : Chart) (o : ℕ) → links_into c o ≡ input_of c o ∷ [] → input_of c o < length c.flow.links
link_there c o e = (enters_it c o (input_of c o) (subst (IsIn (input_of c o)) (sym e) (inl refl))).1

kept_lie : (c : Chart) (o : ℕ) (k : OpKind) → ColumnsLie c o k → KeptLie (first_fields c o) k (parts_of c o)
kept_lie c o (kind.Modify keep drop rename) h = h
kept_lie c o k h = tt

-- what its names stand for, and that nothing is wrong at its options
pub parts_are_at : (flow : Flow) (dict : List Stored) (c : Chart) → IsShapeOf flow dict c → (o : ℕ) → o < length c.flow.ops → parts_of c o ≡ operator_parts (kind_at c o) (inputs_at c o)
parts_are_at flow dict c f o b = ap (λ ps. get_or ps o no_parts) f.parts ∙ get_or-map-range_with_len (parts_at c) 0 (length c.flow.ops) o o no_parts b (omega arith)

pub options_sound : (flow : Flow) (dict : List Stored) (c : Chart) → IsShapeOf flow dict c → (o : ℕ) → o < length c.flow.ops → first_cause (option_causes (kind_at c o) (inputs_at c o)) ≡ None
options_sound flow dict c f o b =
    (none_both (option_causes (kind_at c o) (inputs_at c o)) (output_causes (kind_at c o) (inputs_at c o))
    (none_both (map (input_cause c o) (links_into c o)) (option_causes (kind_at c o) (inputs_at c o) ++ output_causes (kind_at c o) (inputs_at c o)) (f.schemas.fits o b).sound).1).0

pub works_at : (flow : Flow) (dict : List Stored) (c : Chart) → IsShape c → IsShapeOf flow dict c → (o : ℕ) → o < length c.flow.ops → IsByRow (op_at c o).kind → Works (op_at c o).kind (first_fields c o) (parts_of c o)
works_at flow dict c s f o b h = record {
  schema = (s.links (input_of c o) (link_there c o (into_by_row c o s b h))).schema;
  parts_are = parts_are_at flow dict c f o b ∙ ap (operator_parts (kind_at c o)) (one_input c o s b h);
  exprs = (s.ops o b).exprs;
  sound = subst (λ ins. first_cause (option_causes (kind_at c o) ins) ≡ None) (one_input c o s b h) (options_sound flow dict c f o b);
  kept = kept_lie c o (op_at c o).kind (s.ops o b).columns;
}
