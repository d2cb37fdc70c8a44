-- What the operator of changecapture makes of rows.
use Rattle.std.specs.Prelude.{ℕ, Bool, cond, pos, List, [], ◌∷◌, ◌++◌}
use Rattle.ds_value.specs.declared.value.Value.TheVariants.{Int}
use Rattle.ds_schema.specs.Rows.{val}
use Rattle.op_base.specs.Columns.{Row}
use Rattle.op_base.specs.Keyed.{same_vals}
use Rattle.op_match.specs.declared.change.Change.{Change}
use Rattle.op_match.specs.declared.change.Change.TheVariants as change

abbrev pub change_code : Change → ℕ
change_code change.Copy = 0
change_code change.Insert = 1
change_code change.Delete = 2
change_code change.Edit = 3

abbrev pub with_code : Change → Row → Row
with_code c r = r ++ (Int (pos (change_code c)) ∷ [])

-- what a row before and the row after it give
abbrev pub pair : List ℕ → Bool → Row → Row → List Row
pair values keep b a = cond (same_vals (val values b) (val values a)) (cond keep (with_code change.Copy a ∷ []) []) (with_code change.Edit a ∷ [])

abbrev pub pairs : List ℕ → Bool → List Row → List Row → List Row
pairs values keep [] afters = []
pairs values keep (b ∷ befores) [] = []
pairs values keep (b ∷ befores) (a ∷ afters) = pair values keep b a ++ pairs values keep befores afters
