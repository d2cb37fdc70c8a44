-- The lines of a file: which there are, what is given of each, and where a file is too long.
use Rattle.std.specs.Prelude.{◌==◌, ◌++◌, ◌^◌, ℕ, zero, suc, List, [], ◌∷◌, Bool, true, false, if◌then◌else◌, take, map, length, ◌≤◌, ◌≡◌}
use Rattle.std.specs.List.{AllByRecursion, flat_map}

-- lines, and whether behind them comes that the file is too long
pub record Reading : Type 0 where
  pub lines : List (List ℕ)
  pub too_long : Bool

-- bytes in front: of the first line, as a line of their own where there is none, or lost where the file is too long there
abbrev pub before : List ℕ → List (List ℕ) → Bool → Reading
before [] [] b = record { lines = []; too_long = b }
before (x ∷ xs) [] true = record { lines = []; too_long = true }
before (x ∷ xs) [] false = record { lines = (x ∷ xs) ∷ []; too_long = false }
before xs (l ∷ ls) b = record { lines = (xs ++ l) ∷ ls; too_long = b }

abbrev pub with_before : List ℕ → Reading → Reading
with_before xs r = before xs r.lines r.too_long

abbrev pub with_line : Reading → Reading
with_line r = record { lines = [] ∷ r.lines; too_long = r.too_long }

-- each line goes up to its byte 10, which is no part of it and has to stand within the first `room` bytes;
-- the last line may end with the file
abbrev pub split_within : ℕ → List ℕ → Reading
split_within room [] = record { lines = []; too_long = false }
split_within zero (b ∷ bs) = record { lines = []; too_long = true }
split_within (suc room) (b ∷ bs) =
    if b == 10 then with_line (split_within room bs) else with_before (b ∷ []) (split_within room bs)

-- without the one byte 13 at its end
abbrev pub without_return : List ℕ → List ℕ
without_return [] = []
without_return (b ∷ []) = if b == 13 then [] else b ∷ []
without_return (b ∷ c ∷ bs) = b ∷ without_return (c ∷ bs)

-- a line as it is given: a record has at most 2,097,152 bytes, and of a longer line one byte more is given
abbrev pub shown : List ℕ → List ℕ
shown line = take 2_097_153 (without_return line)

abbrev pub lines_within : ℕ → List ℕ → Reading
lines_within room bytes =
    record { lines = map shown (split_within room bytes).lines; too_long = (split_within room bytes).too_long }

-- the lines of a file, of which at most 2^40 bytes are read
abbrev pub lines_of : List ℕ → Reading
lines_of bytes = lines_within (2 ^ 40) bytes

-- no byte 10 stands in a line
abbrev pub IsFree : List ℕ → Type 0
IsFree line = AllByRecursion (λ b. (b == 10) ≡ false) line

-- lines as they are written
abbrev pub written_lines : List (List ℕ) → List ℕ
written_lines lines = flat_map (λ l. l ++ 10 ∷ []) lines

-- what is written as lines is read as these lines
abbrev pub LinesAgain : Type 0
LinesAgain = (lines : List (List ℕ)) → AllByRecursion IsFree lines → length (written_lines lines) ≤ 2 ^ 40
    → lines_of (written_lines lines) ≡ record { lines = map shown lines; too_long = false }
