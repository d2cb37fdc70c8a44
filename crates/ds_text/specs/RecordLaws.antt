-- What holds of the lines that are written and of the rows that lines spell.
use Rattle.std.specs.Prelude.{◌≡◌, ◌≤◌, ◌==◌, ◌^◌, ℕ, List, [], ◌∷◌, length, map, Bool, true, false}
use Rattle.std.specs.List.{AllByRecursion}
use Rattle.ds_value.specs.declared.kind.Kind.{Kind}
use Rattle.ds_value.specs.declared.kind.Kind.TheVariants as kind
use Rattle.ds_value.specs.declared.value.Value.{Value}
use Rattle.ds_value.specs.declared.value.Value.TheVariants.{Null, Int, UInt, Dec, Text, Date}
use Rattle.ds_schema.specs.declared.schema.Field.{Field}
use Rattle.ds_schema.specs.Schemas.{IsSchema, row_fits}
use Rattle.ds_text.specs.declared.form.Form.{Form}
use Rattle.ds_text.specs.declared.form.Form.TheVariants.{Delimited, Fixed}
use Rattle.ds_text.specs.Lines.{shown, lines_of, written_lines}
use Rattle.ds_text.specs.Forms.{FormFits}
use Rattle.ds_text.specs.Columns.{is_blank}
use Rattle.ds_text.specs.Records.{SpellsRow, written_row, is_refused}

-- a line spells one row at most, and that fits the schema
abbrev pub OneRow : Type 0
OneRow = (form : Form) (fields : List Field) (line : List ℕ) (a b : List Value) → FormFits fields form
    → SpellsRow form fields line a → SpellsRow form fields line b → a ≡ b

abbrev pub SpelledFits : Type 0
SpelledFits = (form : Form) (fields : List Field) (line : List ℕ) (row : List Value)
    → SpellsRow form fields line row → row_fits fields row ≡ true

abbrev pub ends_with : ℕ → List ℕ → Bool
ends_with x [] = false
ends_with x (b ∷ []) = b == x
ends_with x (b ∷ c ∷ bs) = ends_with x (c ∷ bs)

-- a text of exactly n bytes
abbrev pub is_sized : Kind → Bool
is_sized (kind.Int bits) = false
is_sized (kind.UInt bits) = false
is_sized (kind.Dec p s) = false
is_sized (kind.Text max fixed) = fixed
is_sized kind.Date = false

-- a column gives the value back: a text of string[max=n] doesn't end with a space, and one of a nullable column
-- isn't spaces alone or empty
abbrev pub Stays : Kind → Bool → Value → Type 0
Stays k nullable Null = Unit {0}
Stays k nullable (Int z) = Unit {0}
Stays k nullable (UInt n) = Unit {0}
Stays k nullable (Dec z) = Unit {0}
Stays k nullable (Text b) = (is_sized k ≡ false → ends_with 32 b ≡ false) × (nullable ≡ true → is_blank b ≡ false)
Stays k nullable (Date d) = Unit {0}

abbrev pub EachStays : List Field → List Value → Type 0
EachStays [] vs = Unit {0}
EachStays (f ∷ fs) [] = Unit {0}
EachStays (f ∷ fs) (v ∷ vs) = Stays f.kind f.nullable v × EachStays fs vs

-- nothing of the row is lost in the form
abbrev pub IsKept : Form → List Field → List Value → Type 0
IsKept (Delimited d) fields row = Unit {0}
IsKept (Fixed widths) fields row = EachStays fields row × (ends_with 13 (written_row (Fixed widths) fields row) ≡ false)

-- a row of which a line can be written that gives it back
pub record IsReadable (form : Form) (fields : List Field) (row : List Value) : Type 0 where
  pub fits : row_fits fields row ≡ true
  pub writable : is_refused form fields row ≡ false
  pub kept : IsKept form fields row
  pub short : length (written_row form fields row) ≤ 2_097_152

-- the line that is given of a written row spells the row
abbrev pub ReadsBack : Type 0
ReadsBack = (form : Form) (fields : List Field) (row : List Value) → IsSchema fields → FormFits fields form
    → IsReadable form fields row → SpellsRow form fields (shown (written_row form fields row)) row

-- rows as the lines of a file
abbrev pub written_rows : Form → List Field → List (List Value) → List ℕ
written_rows form fields rows = written_lines (map (written_row form fields) rows)

-- each line, in order, spells the row
abbrev pub SpellRows : Form → List Field → List (List ℕ) → List (List Value) → Type 0
SpellRows form fields [] [] = Unit {0}
SpellRows form fields (line ∷ lines) (row ∷ rows) = SpellsRow form fields line row × SpellRows form fields lines rows
SpellRows form fields lines rows = ⊥

-- the lines of a file of written rows spell these rows, and no more comes
pub record FileAgain (form : Form) (fields : List Field) (rows : List (List Value)) : Type 0 where
  pub each : SpellRows form fields (lines_of (written_rows form fields rows)).lines rows
  pub ends : (lines_of (written_rows form fields rows)).too_long ≡ false

abbrev pub FileReadsBack : Type 0
FileReadsBack = (form : Form) (fields : List Field) (rows : List (List Value)) → IsSchema fields → FormFits fields form
    → AllByRecursion (IsReadable form fields) rows → length (written_rows form fields rows) ≤ 2 ^ 40
    → FileAgain form fields rows
