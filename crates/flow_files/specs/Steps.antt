-- What taking a line, and the end of the lines, come to for an import.
use Rattle.std.specs.Prelude.{◌≡◌, ℕ, ◌+◌, ◌-◌, ◌^◌, ◌≤◌, min, Bool, List, [], ◌++◌, length}
use Rattle.std.specs.List.{flat_map}
use Rattle.ds_schema.specs.declared.schema.Field.{Field}
use Rattle.ds_text.specs.declared.form.Form.{Form}
use Rattle.ds_text.specs.Lines.{Reading}
use Rattle.ds_text.specs.Readers.{first}
use Rattle.op_base.specs.Columns.{Row}
use Rattle.op_base.specs.Meanings.{Line, line_rows, line_faults}
use Rattle.flow_files.specs.declared.tally.Tally.{Tally}
use Rattle.flow_files.specs.declared.import.Progress.{Progress}
use Rattle.flow_files.specs.Lines.{IsLine, AreLinesFrom, faults_behind}
use Rattle.flow_files.specs.Tallies.{Grows}

-- one more, up to the end of the type
abbrev pub more : ℕ → ℕ
more n = min (n + 1) (2 ^ 64 - 1)

-- what a line makes is behind what others made: its row, or the row by which it is rejected, or its fault
pub record Adds (rejects : Bool) (item : Line) (old new : Progress) (tally_old tally_new : Tally) : Type 0 where
  pub rows : new.rows.items ≡ old.rows.items ++ line_rows 0 rejects item
  pub rejected : new.rejected.items ≡ old.rejected.items ++ line_rows 1 rejects item
  pub faults : Grows tally_old tally_new (line_faults rejects item)

-- a line was taken
pub record Takes (form : Form) (fields : List Field) (op : ℕ) (rejects : Bool) (line : List ℕ) (old new : Progress) (tally_old tally_new : Tally) : Type 0 where
  pub item : Line
  pub is : IsLine form fields op old.number line item
  pub number : new.number ≡ old.number
  pub adds : Adds rejects item old new tally_old tally_new

-- the first of the lines that were left was taken
pub record Steps (form : Form) (fields : List Field) (op : ℕ) (rejects : Bool) (left left_new : Reading) (old new : Progress) (tally_old tally_new : Tally) : Type 0 where
  pub line : List ℕ
  pub item : Line
  pub left_is : left ≡ first line left_new
  pub number : new.number ≡ more old.number
  pub is : IsLine form fields op new.number line item
  pub adds : Adds rejects item old new tally_old tally_new

-- no line was left
pub record Ends (op : ℕ) (left : Reading) (old new : Progress) (tally_old tally_new : Tally) : Type 0 where
  pub too_long : Bool
  pub left_is : left ≡ record { lines = []; too_long = too_long }
  pub rows : new.rows.items ≡ old.rows.items
  pub rejected : new.rejected.items ≡ old.rejected.items
  pub faults : Grows tally_old tally_new (faults_behind op too_long)

-- so few lines that they can be counted
abbrev pub AreFew : Reading → Type 0
AreFew reading = length reading.lines ≤ 2 ^ 40

-- all lines were taken
pub record TakesAll (form : Form) (fields : List Field) (op : ℕ) (rejects : Bool) (reading : Reading) (rows rejected : List Row) (tally_old tally_new : Tally) : Type 0 where
  pub lines : List Line
  pub are : AreLinesFrom form fields op 1 reading.lines lines
  pub rows_are : rows ≡ flat_map (line_rows 0 rejects) lines
  pub rejected_are : rejected ≡ flat_map (line_rows 1 rejects) lines
  pub faults : Grows tally_old tally_new (flat_map (line_faults rejects) lines ++ faults_behind op reading.too_long)
