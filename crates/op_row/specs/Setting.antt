-- Values put into a row, one after the other.
use Rattle.std.specs.Prelude.{◌≡◌, ℕ, nat_lt, true, if◌then◌else◌, List, [], ◌∷◌, ◌++◌, length, slice_set}
use Rattle.ds_value.specs.declared.value.Value.{Value}
use Rattle.ds_value.specs.Kinds.{IsKind}
use Rattle.ds_schema.specs.Schemas.{row_fits}
use Rattle.op_base.specs.Columns.{Row}
use Rattle.ds_expr.specs.Assigning.{can_assign}
use Rattle.op_row.specs.declared.setting.Set.{Set}

-- in its column, or behind the last
abbrev pub put : ℕ → Value → Row → Row
put col v r = if nat_lt col (length r) then slice_set r col v else r ++ v ∷ []

abbrev pub put_all : List ℕ → List Value → Row → Row
put_all [] values r = r
put_all (col ∷ cols) [] r = r
put_all (col ∷ cols) (v ∷ values) r = put_all cols values (put col v r)

-- the set can be computed in this row
pub record MaySet (r : Row) (set : Set) : Type 0 where
  pub fits : row_fits set.expr.fields r ≡ true
  pub kind : IsKind set.field.kind
  pub assignable : can_assign set.expr.typing.shape set.expr.typing.scale set.field.kind ≡ true
