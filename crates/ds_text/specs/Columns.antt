-- The columns of a line of fixed widths, and the spaces in them.
use Rattle.std.specs.Prelude.{◌==◌, ℕ, List, [], ◌∷◌, Bool, true, false, if◌then◌else◌}
use Rattle.std.specs.List.{list_all}
use Rattle.ds_value.specs.declared.kind.Kind.{Kind}
use Rattle.ds_value.specs.declared.kind.Kind.TheVariants as kind

abbrev pub is_space : ℕ → Bool
is_space b = b == 32

-- spaces alone, or nothing
abbrev pub is_blank : List ℕ → Bool
is_blank bytes = list_all is_space bytes

-- without the spaces at the left end
abbrev pub without_left_spaces : List ℕ → List ℕ
without_left_spaces [] = []
without_left_spaces (b ∷ bs) = if is_space b then without_left_spaces bs else b ∷ bs

-- without the spaces at the right end
abbrev pub without_right_spaces : List ℕ → List ℕ
without_right_spaces [] = []
without_right_spaces (b ∷ bs) = if is_blank (b ∷ bs) then [] else b ∷ without_right_spaces bs

abbrev pub is_text : Kind → Bool
is_text (kind.Int bits) = false
is_text (kind.UInt bits) = false
is_text (kind.Dec p s) = false
is_text (kind.Text max fixed) = true
is_text kind.Date = false

-- what is read of a column: of a text without the spaces at its right end, of a number or date without those at both ends
abbrev pub trimmed : Kind → List ℕ → List ℕ
trimmed k column = if is_text k then without_right_spaces column else without_left_spaces (without_right_spaces column)
