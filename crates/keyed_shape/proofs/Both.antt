-- Keys that are on two inputs.
use Rattle.std.proofs.Common.{◌≡◌, ◌∷◌, [], ◌&&◌, not, ℕ, List, Bool, true, Option, None}
use Rattle.std.proofs.lemmas.Bool.{and_parts}
use Rattle.ds_schema.specs.declared.schema.Field.{Field}
use Rattle.shape_base.specs.declared.fault.ShapeWhy.{ShapeWhy}
use Rattle.shape_base.specs.declared.fault.ShapeWhy.TheVariants as why
use Rattle.shape_base.specs.Causes.{first_cause, cause_if}
use Rattle.keyed_shape.specs.Keyed.{both_cause, kinds_agree}
use Rattle.shape_base.specs.Naming.{has_keys}
use Rattle.shape_base.proofs.Firsts.{none_head}
use Rattle.shape_base.specs.Widths.{fields_cause}
use Rattle.shape_base.proofs.Held.{held}

-- keys that are on two inputs, of one kind
pub record AreBoth (key : List (List ℕ × Bool)) (left right : List Field) : Type 0 where
  pub left_has : has_keys left key ≡ true
  pub right_has : has_keys right key ≡ true
  pub agree : kinds_agree key left right ≡ true

pub are_both : (key : List (List ℕ × Bool)) (left right : List Field) (rest : List (Option ShapeWhy)) → first_cause (both_cause key left right ∷ rest) ≡ None → AreBoth key left right
are_both key left right rest e =
    let here = (none_head (both_cause key left right) rest e).0 in
    let one = none_head (cause_if (not (has_keys left key && has_keys right key)) why.Field) _ here in
    let has = and_parts (has_keys left key) (has_keys right key) (held (has_keys left key && has_keys right key) why.Field one.0) in
    record { left_has = has.0; right_has = has.1; agree = held (kinds_agree key left right) why.Kind (none_head (cause_if (not (kinds_agree key left right)) why.Kind) [] one.1).0 }

-- what is made has fields such as a schema may have
pub both_made : (key : List (List ℕ × Bool)) (left right made : List Field) → first_cause (both_cause key left right ∷ (fields_cause made ∷ [])) ≡ None → fields_cause made ≡ None
both_made key left right made e = (none_head (fields_cause made) [] (none_head (both_cause key left right) _ e).1).0
