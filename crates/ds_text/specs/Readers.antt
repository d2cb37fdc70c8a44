-- What a reader of lines has left, and what one call of it comes to.
use Rattle.std.specs.Prelude.{◌≡◌, ℕ, List, [], ◌∷◌, true, false, Result, Ok, Err}
use Rattle.ds_text.specs.Lines.{Reading, lines_within}
use Rattle.ds_text.specs.declared.line_reader.LineEnd.{LineEnd}
use Rattle.ds_text.specs.declared.line_reader.LineEnd.TheVariants.{Line, End}
use Rattle.ds_text.specs.declared.line_reader.LineFault.{LineFault}
use Rattle.ds_text.specs.declared.line_reader.LineFault.TheVariants.{Device, Memory, FileTooLong}

-- the bytes that are left, in the reader and behind it; how many bytes may still be given; how many the reader
-- holds itself; and how often the source has failed
pub record Reader : Type 0 where
  pub left : List ℕ
  pub room : ℕ
  pub held : ℕ
  pub faults : ℕ

-- the lines that are left
abbrev pub remaining : Reader → Reading
remaining r = lines_within r.room r.left

abbrev pub first : List ℕ → Reading → Reading
first line r = record { lines = line ∷ r.lines; too_long = r.too_long }

-- the first of the old lines was taken, or there was none, or none and the file is too long
abbrev pub Reads : Result LineEnd LineFault → Reading → List ℕ → Reading → Type 0
Reads (Ok Line) old line new = old ≡ first line new
Reads (Ok End) old line new = old ≡ record { lines = []; too_long = false }
Reads (Err FileTooLong) old line new = old ≡ record { lines = []; too_long = true }
Reads (Err Device) old line new = Unit {0}
Reads (Err Memory) old line new = Unit {0}
