-- The operators by rows that compute, as streams, and what is asked of what they are made with.
use Rattle.std.specs.Prelude.{◌≡◌, ◌≤◌, ⊤, ℕ, suc, ◌==◌, ℤ, Bool, true, if◌then◌else◌, List, [], ◌∷◌, map, length}
use Rattle.std.specs.List.{AllByRecursion}
use Rattle.ds_value.specs.Kinds.{IsKind}
use Rattle.ds_schema.specs.declared.schema.Field.{Field}
use Rattle.op_base.specs.RowOperators.{RowRule, filter_rule, switch_rule, transform_rule}
use Rattle.op_base.specs.Standing.{RowStream}
use Rattle.expr_table.specs.declared.entry.Shape.TheVariants as shape
use Rattle.ds_expr.specs.Typed.{TypedTree}
use Rattle.ds_expr.specs.Assigning.{can_assign}
use Rattle.op_row.specs.declared.setting.Set.{Set}
use Rattle.op_row.specs.ByRow.{by_row}
use Rattle.op_row.specs.Judging.{judged, case_of, compute}

-- the outputs, with one more where rows are rejected
abbrev pub with_rejects : ℕ → Bool → ℕ
with_rejects outs rejects = if rejects then suc outs else outs

-- true to output 0, false and null to output 1 with -reject
abbrev pub filter_stream : TypedTree → Bool → RowStream
filter_stream test rejects = by_row (filter_rule (judged test) rejects) (with_rejects 1 rejects)

-- case i to output i, others to the last with -reject
abbrev pub switch_stream : TypedTree → List ℤ → Bool → RowStream
switch_stream on cases rejects = by_row (switch_rule (length cases) (case_of on cases) rejects) (with_rejects (length cases) rejects)

abbrev pub IsWhole : TypedTree → Type 0
IsWhole typed = (typed.typing.shape ≡ shape.Num) × (typed.typing.scale ≡ 0)

abbrev pub AreDistinct : List ℤ → Type 0
AreDistinct [] = ⊤
AreDistinct (c ∷ cases) = AllByRecursion (λ other. c ≡ other → ⊥) cases × AreDistinct cases

abbrev pub targets : List Set → List ℕ
targets sets = map (λ (set : Set). set.col) sets

-- the columns that rows have once this one is set: one more where it is appended
abbrev pub width_with : ℕ → ℕ → ℕ
width_with width col = if col == width then suc width else width

abbrev pub width_after : ℕ → List ℕ → ℕ
width_after width [] = width
width_after width (col ∷ cols) = width_after (width_with width col) cols

-- each column is there or the next appended one, and none is set twice
abbrev pub AreTargets : ℕ → List ℕ → Type 0
AreTargets width [] = ⊤
AreTargets width (col ∷ cols) = (col ≤ width) × AllByRecursion (λ other. col ≡ other → ⊥) cols × AreTargets (width_with width col) cols

-- the input's fields, over which all sets are typed
abbrev pub input_fields : List Set → List Field
input_fields [] = []
input_fields (set ∷ sets) = set.expr.fields

-- what an expression gives can be assigned to the field
pub record IsSet (fields : List Field) (set : Set) : Type 0 where
  pub typed : set.expr.fields ≡ fields
  pub kind : IsKind set.field.kind
  pub assignable : can_assign set.expr.typing.shape set.expr.typing.scale set.field.kind ≡ true

pub record AreSets (sets : List Set) : Type 0 where
  pub each : AllByRecursion (IsSet (input_fields sets)) sets
  pub columns : AreTargets (length (input_fields sets)) (targets sets)

-- every set sees the input row
abbrev pub sets_rule : List Set → Bool → RowRule
sets_rule sets rejects = transform_rule (length (input_fields sets)) (width_after (length (input_fields sets)) (targets sets)) (targets sets) (compute sets) rejects

-- rows with what is set to output 0; a row that faults to output 1 with -reject, without a fault
abbrev pub transform_stream : List Set → Bool → RowStream
transform_stream sets rejects = by_row (sets_rule sets rejects) (with_rejects 1 rejects)
