-- What the operators by rows of a shaped flow make of a row.
use Rattle.std.proofs.Common.{◌≡◌, ℕ, suc, not, Bool, true, List, [], ◌∷◌, length, map, refl, sym, ap, subst, ◌∙◌, arith, Option, Some, None, Result, Ok, Err}
use Rattle.std.specs.Prelude.{if◌then◌else◌, ⊤}
use Rattle.std.specs.List.{AllByRecursion}
use Rattle.ds_value.specs.declared.value.Value.{Value}
use Rattle.ds_value.specs.declared.value.Value.TheVariants as value
use Rattle.ds_schema.specs.declared.schema.Field.{Field}
use Rattle.ds_schema.specs.Schemas.{IsSchema, fits_field, row_fits}
use Rattle.expr_table.specs.declared.arg.Arg.{Arg}
use Rattle.expr_table.specs.declared.arg.EvalFault.{EvalFault}
use Rattle.expr_table.specs.Meaning.{◌>>=◌}
use Rattle.expr_read.specs.declared.tree.Expr.{Expr}
use Rattle.expr_read.specs.Reading.{expr_of}
use Rattle.ds_expr.specs.declared.node.TypedNode.{TypedNode}
use Rattle.ds_expr.specs.Assigning.{assigned}
use Rattle.ds_expr.specs.Typed.{Fits as FitsTyping, IsTyped, TypedTree}
use Rattle.ds_expr.specs.Typing.{typed_of}
use Rattle.ds_expr.specs.Values.{Valued, value_in}
use Rattle.ds_expr.proofs.FitsTrees.{node_fits}
use Rattle.op_base.specs.Columns.{Lies, Row, all_columns}
use Rattle.op_base.specs.RowOperators.{cell, set_rows}
use Rattle.op_base.proofs.All.{both_true}
use Rattle.op_row.specs.declared.setting.Set.{Set}
use Rattle.op_row.specs.Expressed.{AreTargets, IsSet, input_fields, targets, width_after}
use Rattle.op_row.specs.Judging.{compute, computed_in, set_value, set_values}
use Rattle.op_row.specs.Setting.{put_all}
use Rattle.op_row.proofs.Assigned.{assignable}
use Rattle.op_row.proofs.Placing.{cells_are}
use Rattle.flow_graph.specs.declared.op_kind.OpKind.{OpKind}
use Rattle.flow_graph.specs.declared.op_kind.OpKind.TheVariants as kind
use Rattle.flow_graph.specs.declared.op_kind.SetSpec.{SetSpec}
use Rattle.flow_graph.specs.declared.parts.OpParts.{OpParts}
use Rattle.flow_graph.specs.RowRules.{ExprsFit, sets_of}
use Rattle.shape_base.specs.declared.fault.ShapeWhy.TheVariants as why
use Rattle.shape_base.proofs.Firsts.{none_head}
use Rattle.shape_base.specs.Causes.{first_cause}
use Rattle.op_shape.specs.Columns.{renamed, set_columns, set_fields}
use Rattle.op_shape.specs.Exprs.{expr_cause, expr_over, is_set, read_over, set_causes, some_tree, suits, tree_over, typed_text}
use Rattle.op_shape.specs.Options.{operator_parts, option_causes}
use Rattle.flow_sound.proofs.Assigned.{assigned_fits}
use Rattle.flow_sound.proofs.Picking.{Widens}
use Rattle.flow_sound.proofs.SetRows.{FitEach, set_fits}
use Rattle.flow_sound.proofs.TypedTrees.{typed_sound}

-- a modify's columns are columns of its input
abbrev pub KeptLie : List Field → OpKind → OpParts → Type 0
KeptLie fields (kind.Modify keep drop rename) parts = Lies parts.cols (all_columns (length fields))
KeptLie fields k parts = ⊤

-- what the shape of a flow says of an operator by rows
pub record Works (k : OpKind) (fields : List Field) (parts : OpParts) : Type 0 where
  pub schema : IsSchema fields
  pub parts_are : parts ≡ operator_parts k (fields ∷ [])
  pub exprs : ExprsFit fields k parts
  pub sound : first_cause (option_causes k (fields ∷ [])) ≡ None
  pub kept : KeptLie fields k parts

-- ---- the expressions of sets

some_is : (a b : TypedTree) → Some a ≡ Some b → a ≡ b
some_is a b e = cc

tree_typed : (fields : List Field) (r : Result TypedNode ℕ) (t : TypedTree) → ((x : TypedNode) → r ≡ Ok x → IsTyped fields x.node x.typing) → tree_over fields r ≡ Some t → IsTyped fields t.node t.typing
tree_typed fields (Ok x) t h e = subst (λ (u : TypedTree). IsTyped fields u.node u.typing) (some_is (record { fields = fields; node = x.node; typing = x.typing }) t e) (h x refl)
tree_typed fields (Err place) t h e = absurd cc

text_typed : (fields : List Field) → IsSchema fields → (r : Result Expr ℕ) (t : TypedTree) → read_over fields r ≡ Some t → IsTyped fields t.node t.typing
text_typed fields s (Ok e) t h = tree_typed fields (typed_of fields e) t (λ x q. (typed_sound fields s e x q).typing) h
text_typed fields s (Err place) t h = absurd cc

-- a tree that a text spells and that suits
expr_typed : (fields : List Field) → IsSchema fields → (test : TypedTree → Bool) (text : List ℕ) → expr_cause test fields text ≡ None → let t = expr_over fields text in IsTyped fields t.node t.typing
expr_typed fields s test text e = go (typed_text fields text) refl e
  where
    go : (o : Option TypedTree) → typed_text fields text ≡ o → (if not (suits test o) then Some why.Expression else None) ≡ None → IsTyped fields (some_tree o).node (some_tree o).typing
    go (Some t) f g = text_typed fields s (expr_of text) t f
    go None f g = absurd cc

abbrev AreTyped : List Field → List TypedTree → Type 0
AreTyped fields exprs = AllByRecursion (λ (t : TypedTree). IsTyped fields t.node t.typing) exprs

sets_typed : (fields : List Field) → IsSchema fields → (set : List SetSpec) → first_cause (set_causes fields set) ≡ None → AreTyped fields (map (λ (s : SetSpec). expr_over fields s.expr) set)
sets_typed fields s [] h = tt
sets_typed fields s (x ∷ set) h =
    let none = none_head (expr_cause (is_set x.field) fields x.expr) (set_causes fields set) h in
    (expr_typed fields s (is_set x.field) x.expr none.0, sets_typed fields s set none.1)

-- ---- the values that are set

module _ (fields : List Field) (schema : IsSchema fields) (r : Row) (fits : row_fits fields r ≡ true) where
  value_fits : (set : Set) → IsSet fields set → IsTyped fields set.expr.node set.expr.typing → (v : Value) → set_value r set ≡ Ok v → fits_field set.field v ≡ true
  value_fits set i t v e = go (value_in r set.expr.node) (λ x q. node_fits fields r schema.each fits set.expr.node set.expr.typing x t q) e
    where
      go : (a : Valued) → ((x : Arg) → a ≡ Ok x → FitsTyping set.expr.typing x) → (a >>= assigned set.field set.expr.typing.scale) ≡ Ok v → fits_field set.field v ≡ true
      go (Ok x) h q = assigned_fits set.field set.expr.typing.scale x v (assignable set.expr.typing set.field.kind x (h x refl) i.assignable) q
      go (Err f) h q = absurd cc

  pub values_fit : (set : List SetSpec) (cols : List ℕ) (exprs : List TypedTree) → length cols ≡ length set → length exprs ≡ length set → AllByRecursion (IsSet fields) (sets_of set cols exprs) → AreTyped fields exprs
      → (values : List Value) → set_values r (sets_of set cols exprs) ≡ Ok values → FitEach set values
  values_fit [] cols exprs m n i t values e = subst (FitEach []) (given [] values e) tt
    where
      given : (a b : List Value) → (let x : Result (List Value) EvalFault = Ok a in x) ≡ Ok b → a ≡ b
      given a b q = cc
  values_fit (s ∷ set) [] exprs m n i t values e = absurd (omega (arith, m))
  values_fit (s ∷ set) (c ∷ cols) [] m n i t values e = absurd (omega (arith, n))
  values_fit (s ∷ set) (c ∷ cols) (x ∷ exprs) m n i t values e =
      go (set_value r one) (λ v q. value_fits one i.0 t.0 v q) (set_values r (sets_of set cols exprs)) (λ vs q. values_fit set cols exprs (omega (arith, m)) (omega (arith, n)) i.1 t.1 vs q) e
    where
      one : Set
      one = record { col = c; field = s.field; expr = x }

      given : (a b : List Value) → (let y : Result (List Value) EvalFault = Ok a in y) ≡ Ok b → a ≡ b
      given a b q = cc

      go : (first : Result Value EvalFault) → ((v : Value) → first ≡ Ok v → fits_field s.field v ≡ true) → (rest : Result (List Value) EvalFault) → ((vs : List Value) → rest ≡ Ok vs → FitEach set vs)
          → (first >>= λ v. rest >>= λ vs. Ok (v ∷ vs)) ≡ Ok values → FitEach (s ∷ set) values
      go (Ok v) h (Ok vs) k q = subst (FitEach (s ∷ set)) (given (v ∷ vs) values q) (h v refl, k vs refl)
      go (Ok v) h (Err f) k q = absurd cc
      go (Err f) h rest k q = absurd cc

-- ---- sets and their columns

pub targets_are : (set : List SetSpec) (cols : List ℕ) (exprs : List TypedTree) → length cols ≡ length set → length exprs ≡ length set → targets (sets_of set cols exprs) ≡ cols
targets_are [] [] exprs m n = refl
targets_are [] (c ∷ cols) exprs m n = absurd (omega (arith, m))
targets_are (s ∷ set) [] exprs m n = absurd (omega (arith, m))
targets_are (s ∷ set) (c ∷ cols) [] m n = absurd (omega (arith, n))
targets_are (s ∷ set) (c ∷ cols) (x ∷ exprs) m n = ap (λ cs. c ∷ cs) (targets_are set cols exprs (omega (arith, m)) (omega (arith, n)))

-- a transform's columns
pub set_targets : (set : List SetSpec) (reject : Bool) (fields : List Field) (parts : OpParts) → Works (kind.Transform set reject) fields parts → targets (sets_of set parts.cols parts.exprs) ≡ set_columns fields set
set_targets set reject fields parts w = targets_are set parts.cols parts.exprs w.exprs.1 w.exprs.2 ∙ ap (λ (p : OpParts). p.cols) w.parts_are

each_value : (set : List SetSpec) (values : List Value) → FitEach set values → length values ≡ length set
each_value [] [] h = refl
each_value (s ∷ set) (v ∷ values) h = ap suc (each_value set values h.1)
each_value [] (v ∷ values) h = absurd h
each_value (s ∷ set) [] h = absurd h

-- ---- rows that fit

abbrev pub Fit : List Field → List Row → Type 0
Fit fields rows = AllByRecursion (λ (y : Row). row_fits fields y ≡ true) rows

pub same_fit : (fields : List Field) (r : Row) (ys : List Row) → row_fits fields r ≡ true → AllByRecursion (λ y. y ≡ r) ys → Fit fields ys
same_fit fields r [] e h = tt
same_fit fields r (y ∷ ys) e h = (ap (row_fits fields) h.0 ∙ e, same_fit fields r ys e h.1)

pub fits_long : (fields : List Field) (r : Row) → row_fits fields r ≡ true → length r ≡ length fields
fits_long [] [] e = refl
fits_long [] (v ∷ r) e = cc
fits_long (f ∷ fields) [] e = cc
fits_long (f ∷ fields) (v ∷ r) e = ap suc (fits_long fields r (both_true (fits_field f v) (row_fits fields r) e).1)

-- a new name changes nothing
pub renamed_fits : (rename : List (List ℕ × List ℕ)) → Widens (renamed rename)
renamed_fits rename f value.Null e = e
renamed_fits rename f (value.Int z) e = e
renamed_fits rename f (value.UInt n) e = e
renamed_fits rename f (value.Dec z) e = e
renamed_fits rename f (value.Text b) e = e
renamed_fits rename f (value.Date d) e = e

pub set_row_fits : (set : List SetSpec) (reject : Bool) (fields : List Field) (parts : OpParts) (r : Row) → Works (kind.Transform set reject) fields parts → row_fits fields r ≡ true
    → let sets = sets_of set parts.cols parts.exprs in Fit (set_fields fields set) (set_rows (width_after (length (input_fields sets)) (targets sets)) (targets sets) (compute sets r) r)
set_row_fits set reject fields parts r w e = go (set_values r sets) (λ values q. values_fit fields w.schema r e set parts.cols parts.exprs w.exprs.1 w.exprs.2 each typed values q)
  where
    sets : List Set
    sets = sets_of set parts.cols parts.exprs

    long : length (input_fields sets) ≡ length r
    long = ap length w.exprs.4 ∙ sym (fits_long fields r e)

    each : AllByRecursion (IsSet fields) sets
    each = subst (λ fs. AllByRecursion (IsSet fs) sets) w.exprs.4 w.exprs.3.each

    typed : AreTyped fields parts.exprs
    typed = subst (AreTyped fields) (sym (ap (λ (p : OpParts). p.exprs) w.parts_are)) (sets_typed fields w.schema set w.sound)

    cells : (values : List Value) → FitEach set values → row_fits (set_fields fields set) (map (cell (targets sets) values r) (all_columns (width_after (length (input_fields sets)) (targets sets)))) ≡ true
    cells values h =
        ap (λ n. row_fits (set_fields fields set) (map (cell (targets sets) values r) (all_columns (width_after n (targets sets))))) long
        ∙ ap (row_fits (set_fields fields set)) (sym (cells_are (targets sets) values r (subst (λ n. AreTargets n (targets sets)) long w.exprs.3.columns)
        (each_value set values h ∙ sym (ap length (targets_are set parts.cols parts.exprs w.exprs.1 w.exprs.2) ∙ w.exprs.1))))
        ∙ ap (λ cs. row_fits (set_fields fields set) (put_all cs values r)) (set_targets set reject fields parts w)
        ∙ set_fits set fields values r e h

    go : (v : Result (List Value) EvalFault) → ((values : List Value) → v ≡ Ok values → FitEach set values) → Fit (set_fields fields set) (set_rows (width_after (length (input_fields sets)) (targets sets)) (targets sets) (computed_in r v) r)
    go (Ok values) h = (cells values (h values refl), tt)
    go (Err f) h = tt
