-- The expressions of an operator over the fields of its input.
use Rattle.std.specs.Prelude.{ℕ, ◌==◌, ◌&&◌, not, Bool, true, false, List, [], ◌∷◌, map, Option, Some, None, Result, Ok, Err}
use Rattle.ds_schema.specs.declared.schema.Field.{Field}
use Rattle.expr_table.specs.declared.entry.Shape.{Shape}
use Rattle.expr_table.specs.declared.entry.Shape.TheVariants as shape
use Rattle.expr_read.specs.declared.tree.Expr.{Expr}
use Rattle.expr_read.specs.Reading.{expr_of}
use Rattle.ds_expr.specs.declared.node.TypedNode.{TypedNode}
use Rattle.ds_expr.specs.Assigning.{can_assign}
use Rattle.ds_expr.specs.Typed.{TypedTree}
use Rattle.ds_expr.specs.Typing.{typed_of}
use Rattle.flow_graph.specs.RowRules.{no_expr}
use Rattle.flow_graph.specs.declared.op_kind.OpKind.{OpKind}
use Rattle.flow_graph.specs.declared.op_kind.OpKind.TheVariants as kind
use Rattle.flow_graph.specs.declared.op_kind.SetSpec.{SetSpec}
use Rattle.shape_base.specs.declared.fault.ShapeWhy.{ShapeWhy}
use Rattle.shape_base.specs.declared.fault.ShapeWhy.TheVariants as why
use Rattle.shape_base.specs.Causes.{cause_if}

abbrev pub tree_over : List Field → Result TypedNode ℕ → Option TypedTree
tree_over fields (Ok x) = Some (record { fields = fields; node = x.node; typing = x.typing })
tree_over fields (Err at) = None

abbrev pub read_over : List Field → Result Expr ℕ → Option TypedTree
read_over fields (Ok e) = tree_over fields (typed_of fields e)
read_over fields (Err at) = None

-- the expression that a text spells, typed over these fields
abbrev pub typed_text : List Field → List ℕ → Option TypedTree
typed_text fields text = read_over fields (expr_of text)

abbrev pub is_truth : Shape → Bool
is_truth shape.Truth = true
is_truth other = false

abbrev pub is_num : Shape → Bool
is_num shape.Num = true
is_num other = false

-- a test gives a truth
abbrev pub is_test : TypedTree → Bool
is_test t = is_truth t.typing.shape

-- what is switched on is a whole number
abbrev pub is_whole : TypedTree → Bool
is_whole t = is_num t.typing.shape && (t.typing.scale == 0)

-- what is set can be assigned to its field
abbrev pub is_set : Field → TypedTree → Bool
is_set f t = can_assign t.typing.shape t.typing.scale f.kind

-- typed, and such as it must be
abbrev pub suits : (TypedTree → Bool) → Option TypedTree → Bool
suits test (Some t) = test t
suits test None = false

abbrev pub expr_cause : (TypedTree → Bool) → List Field → List ℕ → Option ShapeWhy
expr_cause test fields text = cause_if (not (suits test (typed_text fields text))) why.Expression

abbrev pub test_cause : List Field → List ℕ → Option ShapeWhy
test_cause fields text = expr_cause is_test fields text

abbrev pub on_cause : List Field → List ℕ → Option ShapeWhy
on_cause fields text = expr_cause is_whole fields text

-- each set sees the fields of the input
abbrev pub set_causes : List Field → List SetSpec → List (Option ShapeWhy)
set_causes fields set = map (λ (s : SetSpec). expr_cause (is_set s.field) fields s.expr) set

abbrev pub some_tree : Option TypedTree → TypedTree
some_tree (Some t) = t
some_tree None = no_expr

abbrev pub expr_over : List Field → List ℕ → TypedTree
expr_over fields text = some_tree (typed_text fields text)

-- in the written order
abbrev pub exprs_of : OpKind → List Field → List TypedTree
exprs_of (kind.Filter test reject) fields = expr_over fields test ∷ []
exprs_of (kind.Transform set reject) fields = map (λ (s : SetSpec). expr_over fields s.expr) set
exprs_of (kind.Switch on cases reject) fields = expr_over fields on ∷ []
exprs_of k fields = []
