-- Schemas, and the rows that fit them.
use Rattle.std.specs.Prelude.{◌≡◌, ◌≤◌, ℕ, Bool, true, false, ◌&&◌, List, [], ◌∷◌, length}
use Rattle.std.specs.List.{list_all, AllByRecursion}
use Rattle.ds_value.specs.declared.value.Value.{Value}
use Rattle.ds_value.specs.declared.value.Value.TheVariants.{Null, Int, UInt, Dec, Text, Date}
use Rattle.ds_value.specs.Kinds.{IsKind, fits_kind}
use Rattle.ds_lex.specs.Pieces.{begins_with, opens_word, is_opt_byte}
use Rattle.ds_schema.specs.declared.schema.Field.{Field}

-- a letter or '_', then letters, digits and '_'; at most 64 bytes
pub record IsFieldName (bytes : List ℕ) : Type 0 where
  pub short : length bytes ≤ 64
  pub begun : begins_with opens_word bytes ≡ true
  pub each : list_all is_opt_byte bytes ≡ true

abbrev pub IsField : Field → Type 0
IsField f = IsFieldName f.name × IsKind f.kind

-- no two fields have one name
abbrev pub AreDistinct : List Field → Type 0
AreDistinct [] = Unit {0}
AreDistinct (f ∷ fs) = AllByRecursion (λ g. f.name ≡ g.name → ⊥) fs × AreDistinct fs

pub record IsSchema (fields : List Field) : Type 0 where
  pub some : 1 ≤ length fields
  pub few : length fields ≤ 256
  pub each : AllByRecursion IsField fields
  pub distinct : AreDistinct fields

-- null where the field may be null, else a value of the field's kind
abbrev pub fits_field : Field → Value → Bool
fits_field f Null = f.nullable
fits_field f (Int z) = fits_kind f.kind (Int z)
fits_field f (UInt n) = fits_kind f.kind (UInt n)
fits_field f (Dec z) = fits_kind f.kind (Dec z)
fits_field f (Text b) = fits_kind f.kind (Text b)
fits_field f (Date d) = fits_kind f.kind (Date d)

-- one value for each field, which fits it
abbrev pub row_fits : List Field → List Value → Bool
row_fits [] [] = true
row_fits (f ∷ fs) (v ∷ vs) = fits_field f v && row_fits fs vs
row_fits [] (v ∷ vs) = false
row_fits (f ∷ fs) [] = false
