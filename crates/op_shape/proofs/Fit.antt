-- The parts of an operator fit it where nothing is wrong.
use Rattle.std.proofs.Common.{◌≡◌, ◌≤◌, ◌<◌, ◌++◌, ◌∷◌, [], ℕ, List, Bool, true, false, Option, None, refl, sym, ap, subst, ◌∙◌, arith, length, map}
use Rattle.std.specs.List.{AllByRecursion}
use Rattle.std.proofs.lemmas.List.{length-map}
use Rattle.ds_schema.specs.declared.schema.Field.{Field}
use Rattle.ds_schema.specs.Schemas.{IsField}
use Rattle.ds_expr.specs.Typed.{TypedTree}
use Rattle.op_base.specs.Columns.{Lies, all_columns}
use Rattle.op_row.specs.Expressed.{AreSets, AreTargets, IsSet, input_fields, targets}
use Rattle.flow_graph.specs.RowRules.{ExprsFit, sets_of}
use Rattle.flow_graph.specs.declared.op_kind.OpKind.{OpKind}
use Rattle.flow_graph.specs.declared.op_kind.OpKind.TheVariants as kind
use Rattle.flow_graph.specs.declared.op_kind.SetSpec.{SetSpec}
use Rattle.shape_base.specs.declared.fault.ShapeWhy.{ShapeWhy}
use Rattle.shape_base.specs.declared.fault.ShapeWhy.TheVariants as why
use Rattle.shape_base.specs.Causes.{first_cause}
use Rattle.op_shape.specs.Columns.{columns_cause, kept_columns, modified_fields, set_columns, set_fields, set_names, sets_cause, stand_twice}
use Rattle.op_shape.specs.Exprs.{expr_cause, expr_over, is_set, is_test, is_whole, set_causes}
use Rattle.shape_base.specs.Naming.{has_columns}
use Rattle.op_shape.specs.Options.{IsKnown, OptionsStand, option_causes, output_causes, operator_parts, renames_cause}
use Rattle.shape_base.specs.Fields.{first_fields}
use Rattle.shape_base.specs.Widths.{fields_cause}
use Rattle.shape_base.proofs.Firsts.{none_both, none_head}
use Rattle.shape_base.proofs.Held.{held, unheld}
use Rattle.op_shape.proofs.Keeping.{kept_lie, modified_length}
use Rattle.shape_base.proofs.Making.{narrow}
use Rattle.op_shape.proofs.Putting.{targets_stand}
use Rattle.op_shape.proofs.Typing.{truth_is, typed_over, whole_is}

-- a switch has few cases
abbrev pub FewCases : OpKind → Type 0
FewCases (kind.Switch on cases reject) = length cases ≤ 16
FewCases k = Unit {0}

-- ---- the sets of a transform

abbrev exprs_over : List Field → List SetSpec → List TypedTree
exprs_over fields set = map (λ (s : SetSpec). expr_over fields s.expr) set

targets_are : (set : List SetSpec) (cols : List ℕ) (exprs : List TypedTree) → length cols ≡ length set → length exprs ≡ length set → targets (sets_of set cols exprs) ≡ cols
targets_are [] [] exprs h e = refl
targets_are [] (c ∷ cols) exprs h e = absurd (omega (arith, h))
targets_are (s ∷ set) [] exprs h e = absurd (omega (arith, h))
targets_are (s ∷ set) (c ∷ cols) [] h e = absurd (omega (arith, e))
targets_are (s ∷ set) (c ∷ cols) (x ∷ exprs) h e = ap (λ cs. c ∷ cs) (targets_are set cols exprs (omega (arith, h)) (omega (arith, e)))

input_is : (fields : List Field) (set : List SetSpec) (cols : List ℕ) → 0 < length set → length cols ≡ length set → first_cause (set_causes fields set) ≡ None → input_fields (sets_of set cols (exprs_over fields set)) ≡ fields
input_is fields [] cols h l e = absurd (omega arith)
input_is fields (s ∷ set) [] h l e = absurd (omega (arith, l))
input_is fields (s ∷ set) (c ∷ cols) h l e = (typed_over (is_set s.field) fields s.expr (none_head (expr_cause (is_set s.field) fields s.expr) _ e).0).over

sets_are : (fields : List Field) (set : List SetSpec) (cols : List ℕ) → AllByRecursion (λ (s : SetSpec). IsField s.field) set → first_cause (set_causes fields set) ≡ None
    → AllByRecursion (IsSet fields) (sets_of set cols (exprs_over fields set))
sets_are fields [] cols n e = tt
sets_are fields (s ∷ set) [] n e = tt
sets_are fields (s ∷ set) (c ∷ cols) n e =
    let both = none_head (expr_cause (is_set s.field) fields s.expr) _ e in
    let over = typed_over (is_set s.field) fields s.expr both.0 in
    (record { typed = over.over; kind = n.0.1; assignable = over.passes }, sets_are fields set cols n.1 both.1)

pub columns_length : (fields : List Field) (set : List SetSpec) → length (set_columns fields set) ≡ length set
columns_length fields set = length-map (set_names set) _ ∙ length-map set _

all_sets : (fields : List Field) (set : List SetSpec) → 0 < length set → AllByRecursion (λ (s : SetSpec). IsField s.field) set → first_cause (set_causes fields set) ≡ None → stand_twice (set_names set) ≡ false
    → AreSets (sets_of set (set_columns fields set) (exprs_over fields set))
all_sets fields set h n e twice =
    let sets = sets_of set (set_columns fields set) (exprs_over fields set) in
    let input : input_fields sets ≡ fields = input_is fields set (set_columns fields set) h (columns_length fields set) e in
    let cols : targets sets ≡ set_columns fields set = targets_are set (set_columns fields set) (exprs_over fields set) (columns_length fields set) (length-map set _) in
    record {
      each = subst (λ fs. AllByRecursion (IsSet fs) sets) (sym input) (sets_are fields set (set_columns fields set) n e);
      columns = subst (λ fs. AreTargets (length fs) (targets sets)) (sym input) (subst (AreTargets (length fields)) (sym cols) (targets_stand set fields twice));
    }

-- nothing is wrong at a transform
pub record IsSettled (fields : List Field) (set : List SetSpec) : Type 0 where
  pub typed : first_cause (set_causes fields set) ≡ None
  pub once : stand_twice (set_names set) ≡ false

pub settled : (fields : List Field) (set : List SetSpec) (rest : List (Option ShapeWhy)) → first_cause (set_causes fields set ++ (sets_cause set ∷ rest)) ≡ None → IsSettled fields set
settled fields set rest e =
    let both = none_both (set_causes fields set) (sets_cause set ∷ rest) e in
    record { typed = both.0; once = unheld (stand_twice (set_names set)) why.Double (none_head (sets_cause set) rest both.1).0 }

sets_fit : (fields : List Field) (set : List SetSpec) (reject : Bool) → OptionsStand (kind.Transform set reject) → IsSettled fields set → ExprsFit fields (kind.Transform set reject) (operator_parts (kind.Transform set reject) (fields ∷ []))
sets_fit fields set reject o e = (
  o.0,
  columns_length fields set,
  length-map set _,
  all_sets fields set o.0 o.1 e.typed e.once,
  input_is fields set (set_columns fields set) o.0 (columns_length fields set) e.typed,
)

pub exprs_fit : (k : OpKind) (ins : List (List Field)) → IsKnown k → OptionsStand k → FewCases k → first_cause (option_causes k ins ++ output_causes k ins) ≡ None → ExprsFit (first_fields ins) k (operator_parts k ins)
exprs_fit (kind.Filter test reject) ins h o few e =
    let over = typed_over is_test (first_fields ins) test (none_head (expr_cause is_test (first_fields ins) test) [] e).0 in
    (refl, over.over, truth_is (expr_over (first_fields ins) test).typing.shape over.passes)
exprs_fit (kind.Transform set reject) ins h o few e = sets_fit (first_fields ins) set reject o (settled (first_fields ins) set _ e)
exprs_fit (kind.Switch on cases reject) ins h o few e =
    let over = typed_over is_whole (first_fields ins) on (none_head (expr_cause is_whole (first_fields ins) on) [] e).0 in
    (refl, over.over, whole_is (expr_over (first_fields ins) on) over.passes, o, few)
exprs_fit k ins h o few e = tt

-- ---- the columns of an operator lie among its fields

pub record IsKept (keep drop : List (List ℕ)) (rename : List (List ℕ × List ℕ)) (fields : List Field) : Type 0 where
  pub keep_there : has_columns fields keep ≡ true
  pub drop_there : has_columns fields drop ≡ true
  pub some : 1 ≤ length (kept_columns keep drop fields)
  pub few : length (kept_columns keep drop fields) ≤ 256

pub kept : (keep drop : List (List ℕ)) (rename : List (List ℕ × List ℕ)) (fields : List Field)
    → first_cause (option_causes (kind.Modify keep drop rename) (fields ∷ []) ++ output_causes (kind.Modify keep drop rename) (fields ∷ [])) ≡ None → IsKept keep drop rename fields
kept keep drop rename fields e =
    let one = none_head (columns_cause keep fields) _ e in
    let two = none_head (columns_cause drop fields) _ one.1 in
    let three = none_head (renames_cause rename _) _ two.1 in
    let size = narrow (modified_fields keep drop rename fields) (none_head _ [] three.1).0 in
    let len = modified_length keep drop rename fields in
    record {
      keep_there = held (has_columns fields keep) why.Field one.0;
      drop_there = held (has_columns fields drop) why.Field two.0;
      some = subst (λ n. 1 ≤ n) len size.0;
      few = subst (λ n. n ≤ 256) len size.1;
    }

pub modify_lies : (keep drop : List (List ℕ)) (rename : List (List ℕ × List ℕ)) (fields : List Field)
    → first_cause (option_causes (kind.Modify keep drop rename) (fields ∷ []) ++ output_causes (kind.Modify keep drop rename) (fields ∷ [])) ≡ None → Lies (kept_columns keep drop fields) (all_columns (length fields))
modify_lies keep drop rename fields e = kept_lie keep drop fields (kept keep drop rename fields e).keep_there

-- ---- the fields of an output

pub set_sound : (set : List SetSpec) (reject : Bool) (fields : List Field)
    → first_cause (option_causes (kind.Transform set reject) (fields ∷ []) ++ output_causes (kind.Transform set reject) (fields ∷ [])) ≡ None → fields_cause (set_fields fields set) ≡ None
set_sound set reject fields e = (none_head (fields_cause (set_fields fields set)) [] (none_head (sets_cause set) _ (none_both (set_causes fields set) _ e).1).1).0

pub set_few : (set : List SetSpec) (reject : Bool) (fields : List Field)
    → first_cause (option_causes (kind.Transform set reject) (fields ∷ []) ++ output_causes (kind.Transform set reject) (fields ∷ [])) ≡ None → length (set_fields fields set) ≤ 256
set_few set reject fields e = (narrow (set_fields fields set) (set_sound set reject fields e)).1
