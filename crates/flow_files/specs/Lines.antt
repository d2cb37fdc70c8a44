-- What the lines of a file are for an import: each good, with the row that it spells, or bad, with its row and its fault.
use Rattle.std.specs.Prelude.{◌≡◌, ℕ, suc, Bool, true, false, List, [], ◌∷◌, ◌++◌, take}
use Rattle.std.specs.List.{AllByRecursion, flat_map}
use Rattle.ds_value.specs.declared.value.Value.TheVariants.{Text}
use Rattle.ds_schema.specs.declared.schema.Field.{Field}
use Rattle.ds_schema.specs.Schemas.{row_fits}
use Rattle.ds_text.specs.declared.form.Form.{Form}
use Rattle.ds_text.specs.Lines.{lines_of}
use Rattle.ds_text.specs.Records.{SpellsRow, SpellsNoRow}
use Rattle.op_base.specs.Columns.{Row}
use Rattle.op_base.specs.declared.fault.Fault.{Fault}
use Rattle.op_base.specs.declared.fault.FaultKind.TheVariants.{BadRecord, FileTooLong}
use Rattle.op_base.specs.Meanings.{Line, good, bad, line_rows, line_faults}
use Rattle.flow_files.specs.declared.tally.Tally.{Tally}
use Rattle.flow_files.specs.Tallies.{Grows}

-- the row of a bad line: its first 65,536 bytes as one text
abbrev pub line_row : List ℕ → Row
line_row line = Text (take 65_536 line) ∷ []

-- the fault of line n, counted from 1, with its first 64 bytes
abbrev pub bad_record : ℕ → ℕ → List ℕ → Fault
bad_record op n line = record { op = op; kind = BadRecord; place = n; bytes = take 64 line }

-- what line n is for the import with the number op
abbrev pub IsLine : Form → List Field → ℕ → ℕ → List ℕ → Line → Type 0
IsLine form fields op n line (good row) = SpellsRow form fields line row
IsLine form fields op n line (bad row fault) = SpellsNoRow form fields line × (row ≡ line_row line) × (fault ≡ bad_record op n line)

-- what the lines are, from line n on
abbrev pub AreLinesFrom : Form → List Field → ℕ → ℕ → List (List ℕ) → List Line → Type 0
AreLinesFrom form fields op n [] [] = Unit {0}
AreLinesFrom form fields op n (line ∷ lines) (item ∷ items) = IsLine form fields op n line item × AreLinesFrom form fields op (suc n) lines items
AreLinesFrom form fields op n lines items = ⊥

-- what the lines of a file are
abbrev pub AreLines : Form → List Field → ℕ → List ℕ → List Line → Type 0
AreLines form fields op bytes items = AreLinesFrom form fields op 1 (lines_of bytes).lines items

abbrev pub file_too_long : ℕ → Fault
file_too_long op = record { op = op; kind = FileTooLong; place = 0; bytes = [] }

abbrev pub faults_behind : ℕ → Bool → List Fault
faults_behind op true = file_too_long op ∷ []
faults_behind op false = []

-- the fault behind the lines of a file that is too long
abbrev pub beyond : ℕ → List ℕ → List Fault
beyond op bytes = faults_behind op (lines_of bytes).too_long

abbrev pub AllFit : List Field → List Row → Type 0
AllFit fields rows = AllByRecursion (λ row. row_fits fields row ≡ true) rows

-- rows of bad lines
abbrev pub AreOfLines : List Row → Type 0
AreOfLines rows = AllByRecursion (λ row. (line : List ℕ) × (row ≡ line_row line)) rows

-- an import read a file: the rows are those of its good lines, those that were rejected of its bad lines, each in order, and the faults were tallied
pub record Imports (form : Form) (fields : List Field) (op : ℕ) (rejects : Bool) (bytes : List ℕ) (rows rejected : List Row) (old new : Tally) : Type 0 where
  pub lines : List Line
  pub are : AreLines form fields op bytes lines
  pub rows_are : rows ≡ flat_map (line_rows 0 rejects) lines
  pub rejected_are : rejected ≡ flat_map (line_rows 1 rejects) lines
  pub faults : Grows old new (flat_map (line_faults rejects) lines ++ beyond op bytes)
