-- Expressions at which nothing is wrong are typed over the fields, and what they give suits.
use Rattle.std.proofs.Common.{◌≡◌, ◌≢◌, ◌<◌, ◌∷◌, [], ◌==◌, ℕ, zero, suc, List, Bool, true, Option, Some, None, Result, Ok, Err, refl, sym, arith, length, get_or, subst}
use Rattle.std.proofs.lemmas.Bool.{and_parts, eqb-true}
use Rattle.ds_schema.specs.declared.schema.Field.{Field}
use Rattle.expr_table.specs.declared.entry.Shape.{Shape}
use Rattle.expr_table.specs.declared.entry.Shape.TheVariants as shape
use Rattle.expr_read.specs.declared.tree.Expr.{Expr}
use Rattle.expr_read.specs.Reading.{expr_of}
use Rattle.ds_expr.specs.declared.node.TypedNode.{TypedNode}
use Rattle.ds_expr.specs.Typed.{TypedTree}
use Rattle.ds_expr.specs.Typing.{typed_of}
use Rattle.flow_graph.specs.declared.op_kind.SetSpec.{SetSpec}
use Rattle.op_row.specs.Expressed.{IsWhole}
use Rattle.shape_base.specs.declared.fault.ShapeWhy.TheVariants as why
use Rattle.shape_base.specs.Causes.{first_cause}
use Rattle.op_shape.specs.Exprs.{tree_over, read_over, typed_text, is_truth, is_num, is_whole, is_set, suits, expr_cause, set_causes, some_tree, expr_over}
use Rattle.shape_base.proofs.Firsts.{none_head}
use Rattle.shape_base.proofs.Held.{held}

pub record IsOver (fields : List Field) (test : TypedTree → Bool) (t : TypedTree) : Type 0 where
  pub over : t.fields ≡ fields
  pub passes : test t ≡ true

suits_tree : (test : TypedTree → Bool) (fields : List Field) (x : Result TypedNode ℕ) → suits test (tree_over fields x) ≡ true → IsOver fields test (some_tree (tree_over fields x))
suits_tree test fields (Ok x) h = record { over = refl; passes = h }
suits_tree test fields (Err at) h = cc

suits_read : (test : TypedTree → Bool) (fields : List Field) (r : Result Expr ℕ) → suits test (read_over fields r) ≡ true → IsOver fields test (some_tree (read_over fields r))
suits_read test fields (Ok e) h = suits_tree test fields (typed_of fields e) h
suits_read test fields (Err at) h = cc

pub typed_over : (test : TypedTree → Bool) (fields : List Field) (text : List ℕ) → expr_cause test fields text ≡ None → IsOver fields test (expr_over fields text)
typed_over test fields text e = suits_read test fields (expr_of text) (held (suits test (typed_text fields text)) why.Expression e)

suits_some : (test : TypedTree → Bool) (o : Option TypedTree) → suits test o ≡ true → o ≢ None
suits_some test (Some t) h e = cc
suits_some test None h e = cc

pub is_typed : (test : TypedTree → Bool) (fields : List Field) (text : List ℕ) → expr_cause test fields text ≡ None → typed_text fields text ≢ None
is_typed test fields text e = suits_some test (typed_text fields text) (held (suits test (typed_text fields text)) why.Expression e)

-- each of several sets
pub set_typed : (fields : List Field) (set : List SetSpec) (i : ℕ) (s : SetSpec) → first_cause (set_causes fields set) ≡ None → i < length set → s ≡ get_or set i s → typed_text fields s.expr ≢ None
set_typed fields [] i s e h at = absurd (omega arith)
set_typed fields (t ∷ set) zero s e h at = let one = none_head (expr_cause (is_set t.field) fields t.expr) _ e in subst (λ (x : SetSpec). typed_text fields x.expr ≢ None) (sym at) (is_typed (is_set t.field) fields t.expr one.0)
set_typed fields (t ∷ set) (suc i) s e h at = set_typed fields set i s (none_head (expr_cause (is_set t.field) fields t.expr) _ e).1 (omega arith) at

-- what the tests say
pub truth_is : (s : Shape) → is_truth s ≡ true → s ≡ shape.Truth
truth_is shape.Truth h = refl
truth_is shape.Num h = cc
truth_is shape.Text h = cc
truth_is shape.Date h = cc
truth_is shape.Unused h = cc

num_is : (s : Shape) → is_num s ≡ true → s ≡ shape.Num
num_is shape.Num h = refl
num_is shape.Truth h = cc
num_is shape.Text h = cc
num_is shape.Date h = cc
num_is shape.Unused h = cc

pub whole_is : (t : TypedTree) → is_whole t ≡ true → IsWhole t
whole_is t h = let parts = and_parts (is_num t.typing.shape) (t.typing.scale == 0) h in (num_is t.typing.shape parts.0, eqb-true t.typing.scale 0 parts.1)
