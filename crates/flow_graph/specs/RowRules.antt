-- Which rule an operator by rows has, by its options and what its names and expressions stand for.
use Rattle.std.specs.Prelude.{◌≡◌, ◌≤◌, ◌<◌, ℕ, List, [], ◌∷◌, length, map, get_or, None, ⊤}
use Rattle.ds_schema.specs.declared.schema.Field.{Field}
use Rattle.expr_table.specs.declared.entry.Shape.TheVariants as shape
use Rattle.ds_expr.specs.declared.node.Node.TheVariants as made
use Rattle.ds_expr.specs.Typed.{TypedTree}
use Rattle.op_base.specs.declared.fault.Fault.{Fault}
use Rattle.op_base.specs.RowOperators.{RowRule, copy_rule, filter_rule, switch_rule, modify_rule}
use Rattle.op_row.specs.declared.setting.Set.{Set}
use Rattle.op_row.specs.Expressed.{AreDistinct, AreSets, IsWhole, input_fields, sets_rule}
use Rattle.op_row.specs.Judging.{judged, case_of}
use Rattle.flow_graph.specs.declared.op_kind.OpKind.{OpKind}
use Rattle.flow_graph.specs.declared.op_kind.OpKind.TheVariants as kind
use Rattle.flow_graph.specs.declared.op_kind.SetSpec.{SetSpec}
use Rattle.flow_graph.specs.declared.parts.OpParts.{OpParts}

-- the same fault, of the operator with this number
abbrev pub at_op : ℕ → Fault → Fault
at_op o f = record { op = o; kind = f.kind; place = f.place; bytes = f.bytes }

-- the rule of the operator with this number
abbrev pub numbered : ℕ → RowRule → RowRule
numbered o rule = record { rows = rule.rows; faults = λ r. map (at_op o) (rule.faults r); passes = rule.passes }

abbrev pub no_expr : TypedTree
no_expr = record { fields = []; node = made.Column 0; typing = record { shape = shape.Unused; scale = 0; literal = None } }

abbrev pub first_expr : OpParts → TypedTree
first_expr parts = get_or parts.exprs 0 no_expr

-- the sets of a transform, each with its column and its expression
abbrev pub sets_of : List SetSpec → List ℕ → List TypedTree → List Set
sets_of [] cols exprs = []
sets_of (s ∷ set) [] exprs = []
sets_of (s ∷ set) (c ∷ cols) [] = []
sets_of (s ∷ set) (c ∷ cols) (e ∷ exprs) = record { col = c; field = s.field; expr = e } ∷ sets_of set cols exprs

-- of filter, transform, modify and switch; copy is by its own rule, and no other operator works row by row alone
abbrev pub row_rule : ℕ → OpKind → OpParts → RowRule
row_rule o (kind.Filter test reject) parts = numbered o (filter_rule (judged (first_expr parts)) reject)
row_rule o (kind.Transform set reject) parts = numbered o (sets_rule (sets_of set parts.cols parts.exprs) reject)
row_rule o (kind.Modify keep drop rename) parts = numbered o (modify_rule parts.cols)
row_rule o (kind.Switch on cases reject) parts = numbered o (switch_rule (length cases) (case_of (first_expr parts) cases) reject)
row_rule o k parts = numbered o copy_rule

-- the expressions of an operator are over the fields of its input, and what they give suits it
abbrev pub ExprsFit : List Field → OpKind → OpParts → Type 0
ExprsFit fields (kind.Filter test reject) parts = (parts.exprs ≡ first_expr parts ∷ []) × ((first_expr parts).fields ≡ fields) × ((first_expr parts).typing.shape ≡ shape.Truth)
ExprsFit fields (kind.Transform set reject) parts = (0 < length set) × (length parts.cols ≡ length set) × (length parts.exprs ≡ length set) × AreSets (sets_of set parts.cols parts.exprs) × (input_fields (sets_of set parts.cols parts.exprs) ≡ fields)
ExprsFit fields (kind.Switch on cases reject) parts = (parts.exprs ≡ first_expr parts ∷ []) × ((first_expr parts).fields ≡ fields) × IsWhole (first_expr parts) × AreDistinct cases × (length cases ≤ 16)
ExprsFit fields k parts = ⊤

-- what is found, where an operator works row by row
abbrev pub if_worked : OpKind → List Fault → List Fault
if_worked (kind.Filter test reject) found = found
if_worked (kind.Transform set reject) found = found
if_worked (kind.Modify keep drop rename) found = found
if_worked (kind.Switch on cases reject) found = found
if_worked k found = []
