-- A file has no more lines than bytes that may be read.
use Rattle.std.proofs.Common.{◌≤◌, ◌^◌, ℕ, zero, suc, Bool, true, false, List, [], ◌∷◌, length, arith}
use Rattle.std.specs.Prelude.{◌==◌, if◌then◌else◌}
use Rattle.std.proofs.lemmas.List.{length-map}
use Rattle.ds_text.specs.Lines.{Reading, split_within, with_before, with_line, before, shown, lines_of}
use Rattle.flow_files.specs.Steps.{AreFew}

behind_one : (b : ℕ) (lines : List (List ℕ)) (long : Bool) (room : ℕ) → length lines ≤ room → length (before (b ∷ []) lines long).lines ≤ suc room
behind_one b [] true room h = omega arith
behind_one b [] false room h = omega arith
behind_one b (l ∷ ls) long room h = omega arith

abbrev chosen : Bool → ℕ → Reading → Reading
chosen c b r = if c then with_line r else with_before (b ∷ []) r

by_end : (c : Bool) (b room : ℕ) (r : Reading) → length r.lines ≤ room → length (chosen c b r).lines ≤ suc room
by_end true b room r h = omega arith
by_end false b room r h = behind_one b r.lines r.too_long room h

few_within : (room : ℕ) (bytes : List ℕ) → length (split_within room bytes).lines ≤ room
few_within room [] = omega arith
few_within zero (b ∷ bs) = omega arith
few_within (suc room) (b ∷ bs) = by_end (b == 10) b room (split_within room bs) (few_within room bs)

pub few_lines : (bytes : List ℕ) → AreFew (lines_of bytes)
few_lines bytes = omega (arith, few_within (2 ^ 40) bytes, length-map (split_within (2 ^ 40) bytes).lines shown)
