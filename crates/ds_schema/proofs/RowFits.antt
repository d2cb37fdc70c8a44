-- A row that fits has one value for each field.
use Rattle.std.proofs.Common.{◌≡◌, ◌≢◌, Bool, true, false, ◌&&◌, List, [], ◌∷◌, length, refl, ap, ◌∙◌, suc}
use Rattle.ds_value.specs.declared.value.Value.{Value}
use Rattle.ds_schema.specs.declared.schema.Field.{Field}
use Rattle.ds_schema.specs.Schemas.{fits_field, row_fits}

and_false : (b : Bool) → (b && false) ≡ false
and_false true = refl
and_false false = refl

pub other_length : (fields : List Field) (values : List Value) → length fields ≢ length values → row_fits fields values ≡ false
other_length [] [] h = absurd (h refl)
other_length [] (v ∷ values) h = refl
other_length (f ∷ fields) [] h = refl
other_length (f ∷ fields) (v ∷ values) h = ap (λ b. fits_field f v && b) (other_length fields values (λ e. h (ap suc e))) ∙ and_false (fits_field f v)
