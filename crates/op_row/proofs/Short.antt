-- Rows that fit a schema have short texts.
use Rattle.std.proofs.Common.{◌≡◌, zero, suc, true, List, [], ◌∷◌, arith}
use Rattle.std.specs.List.{All, AllByRecursion}
use Rattle.streams.proofs.Basics.{and_left, and_right}
use Rattle.ds_value.specs.Canonical.{IsShort}
use Rattle.ds_value.specs.declared.value.Value.{Value}
use Rattle.ds_value.specs.declared.value.Value.TheVariants.{Null, Int, UInt, Dec, Text, Date}
use Rattle.ds_value.proofs.CanonicalBytes.{fits_held}
use Rattle.ds_schema.specs.declared.schema.Field.{Field}
use Rattle.ds_schema.specs.Schemas.{IsField, fits_field, row_fits}

value_short : (f : Field) (v : Value) → IsField f → fits_field f v ≡ true → IsShort v
value_short f Null i e = tt
value_short f (Int z) i e = tt
value_short f (UInt n) i e = tt
value_short f (Dec z) i e = tt
value_short f (Text b) i e = (fits_held f.kind (Text b) i.1 e).1
value_short f (Date d) i e = tt

pub row_is_short : (fs : List Field) (vs : List Value) → AllByRecursion IsField fs → row_fits fs vs ≡ true → All IsShort vs
row_is_short [] [] i e k d h = absurd (omega arith)
row_is_short [] (v ∷ vs) i e k d h = absurd (cc)
row_is_short (f ∷ fs) [] i e k d h = absurd (cc)
row_is_short (f ∷ fs) (v ∷ vs) i e zero d h = value_short f v i.0 (and_left _ _ e)
row_is_short (f ∷ fs) (v ∷ vs) i e (suc k) d h = row_is_short fs vs i.1 (and_right _ _ e) k d (omega arith)
