-- Which rows a line spells, and the one line that is written of a row.
use Rattle.std.specs.Prelude.{◌≡◌, ◌≤◌, ◌==◌, ◌++◌, ◌-◌, ℕ, List, [], ◌∷◌, length, sum, take, drop, replicate, Bool, true, false, Option, None, Some, not, ◌&&◌, ◌||◌, nat_lt, if◌then◌else◌}
use Rattle.std.specs.List.{list_any}
use Rattle.ds_value.specs.declared.kind.Kind.{Kind}
use Rattle.ds_value.specs.declared.value.Value.{Value}
use Rattle.ds_value.specs.declared.value.Value.TheVariants.{Null, Int, UInt, Dec, Text, Date}
use Rattle.ds_value.specs.Values.{letters}
use Rattle.ds_value.specs.Spellings.{Spells, written, filled}
use Rattle.ds_schema.specs.declared.schema.Field.{Field}
use Rattle.ds_text.specs.declared.form.Form.{Form}
use Rattle.ds_text.specs.declared.form.Form.TheVariants.{Delimited, Fixed}
use Rattle.ds_text.specs.Cells.{Cell, cell_text, text_of, IsCell, behind}
use Rattle.ds_text.specs.Columns.{is_blank, is_text, trimmed}

-- null, or the value that the text spells
abbrev pub NullOr : Bool → Kind → List ℕ → Value → Type 0
NullOr true k bytes v = v ≡ Null
NullOr false k bytes v = Spells k bytes v

abbrev pub is_empty : List ℕ → Bool
is_empty [] = true
is_empty (b ∷ bs) = false

-- an empty field without quotes is null in a nullable column; each other field is read by its kind
abbrev pub is_null_cell : Field → Bool → List ℕ → Bool
is_null_cell f quoted bytes = f.nullable && (not quoted && is_empty bytes)

abbrev pub Means : Field → Bool → List ℕ → Value → Type 0
Means f quoted bytes v = NullOr (is_null_cell f quoted bytes) f.kind bytes v

-- the line has a field for each column, with delimiters between them and nothing more; no line spells no columns
abbrev pub SpellsFields : ℕ → List Field → Option (List ℕ) → List Value → Type 0
SpellsFields d [] None [] = Unit {0}
SpellsFields d (f ∷ fs) (Some line) (v ∷ vs) =
    (c : Cell) × (rest : Option (List ℕ)) × IsCell d c × (line ≡ cell_text c ++ behind d rest)
    × Means f c.quoted c.bytes v × SpellsFields d fs rest vs
SpellsFields d fs line vs = ⊥

-- a column of spaces alone is null where it is nullable; each other column is read by its kind
abbrev pub MeansColumn : Field → List ℕ → Value → Type 0
MeansColumn f column v = NullOr (f.nullable && is_blank column) f.kind (trimmed f.kind column) v

-- a column after the other, each of its width
abbrev pub SpellsColumns : List Field → List ℕ → List ℕ → List Value → Type 0
SpellsColumns [] [] line [] = Unit {0}
SpellsColumns (f ∷ fs) (w ∷ ws) line (v ∷ vs) = MeansColumn f (take w line) v × SpellsColumns fs ws (drop w line) vs
SpellsColumns fs ws line vs = ⊥

-- a line that is shorter than all columns is filled with spaces, and a longer one spells nothing
abbrev pub SpellsFixed : List Field → List ℕ → List ℕ → List Value → Type 0
SpellsFixed fields widths line row = (length line ≤ sum widths) × SpellsColumns fields widths (filled (sum widths) line) row

abbrev pub SpellsIn : Form → List Field → List ℕ → List Value → Type 0
SpellsIn (Delimited d) fields line row = SpellsFields d fields (Some line) row
SpellsIn (Fixed widths) fields line row = SpellsFixed fields widths line row

abbrev pub SpellsNone : Form → List Field → List ℕ → Type 0
SpellsNone form fields line = (row : List Value) → SpellsIn form fields line row → ⊥

-- the line spells the row
pub record SpellsRow (form : Form) (fields : List Field) (line : List ℕ) (row : List Value) : Type 0 where
  pub short : length line ≤ 2_097_152
  pub spells : SpellsIn form fields line row

-- the line spells no row
abbrev pub SpellsNoRow : Form → List Field → List ℕ → Type 0
SpellsNoRow form fields line = (row : List Value) → SpellsRow form fields line row → ⊥

abbrev pub is_null : Value → Bool
is_null Null = true
is_null (Int z) = false
is_null (UInt n) = false
is_null (Dec z) = false
is_null (Text b) = false
is_null (Date d) = false

abbrev pub has_byte : ℕ → List ℕ → Bool
has_byte x bytes = list_any (λ b. b == x) bytes

-- a spelling is written in quotes where it has the delimiter, a quote or byte 13, or is an empty text in a nullable column
abbrev pub needs_quotes : ℕ → Bool → List ℕ → Bool
needs_quotes d nullable bytes = list_any (λ b. b == d || b == 34 || b == 13) bytes || (nullable && is_empty bytes)

-- a field as it is written, null as nothing
abbrev pub written_field : ℕ → Field → Value → List ℕ
written_field d f v = if is_null v then [] else text_of (needs_quotes d f.nullable (written f.kind v)) (written f.kind v)

-- further fields, with the delimiter before each
abbrev pub written_more : ℕ → List Field → List Value → List ℕ
written_more d [] vs = []
written_more d (f ∷ fs) [] = []
written_more d (f ∷ fs) (v ∷ vs) = d ∷ (written_field d f v ++ written_more d fs vs)

abbrev pub written_fields : ℕ → List Field → List Value → List ℕ
written_fields d [] vs = []
written_fields d (f ∷ fs) [] = []
written_fields d (f ∷ fs) (v ∷ vs) = written_field d f v ++ written_more d fs vs

-- filled with spaces: behind the text where it stands to the left, else before it
abbrev pub padded : Bool → ℕ → List ℕ → List ℕ
padded left w text = if left then filled w text else replicate (w - length text) 32 ++ text

-- a column as it is written: texts to the left, numbers and dates to the right, null as spaces
abbrev pub written_column : Field → ℕ → Value → List ℕ
written_column f w v = if is_null v then replicate w 32 else padded (is_text f.kind) w (written f.kind v)

abbrev pub written_columns : List Field → List ℕ → List Value → List ℕ
written_columns [] ws vs = []
written_columns (f ∷ fs) [] vs = []
written_columns (f ∷ fs) (w ∷ ws) [] = []
written_columns (f ∷ fs) (w ∷ ws) (v ∷ vs) = written_column f w v ++ written_columns fs ws vs

-- the one line that is written of a row
abbrev pub written_row : Form → List Field → List Value → List ℕ
written_row (Delimited d) fields row = written_fields d fields row
written_row (Fixed widths) fields row = written_columns fields widths row

-- a text holds the end of a line
abbrev pub holds_end : List Value → Bool
holds_end row = list_any (λ v. has_byte 10 (letters v)) row

-- a value is wider than its column
abbrev pub is_wide : Field → ℕ → Value → Bool
is_wide f w v = not (is_null v) && nat_lt w (length (written f.kind v))

abbrev pub any_wide : List Field → List ℕ → List Value → Bool
any_wide [] ws vs = false
any_wide (f ∷ fs) [] vs = false
any_wide (f ∷ fs) (w ∷ ws) [] = false
any_wide (f ∷ fs) (w ∷ ws) (v ∷ vs) = is_wide f w v || any_wide fs ws vs

-- a value is wider than its column; a delimited field has no width
abbrev pub is_too_wide : Form → List Field → List Value → Bool
is_too_wide (Delimited d) fields row = false
is_too_wide (Fixed widths) fields row = any_wide fields widths row

-- the row can't be written
abbrev pub is_refused : Form → List Field → List Value → Bool
is_refused form fields row = holds_end row || is_too_wide form fields row
