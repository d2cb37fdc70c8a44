-- Words as one writes them on a line, with one blank between two.
use Rattle.std.specs.Prelude.{ℕ, List, [], ◌∷◌, ◌==◌, if◌then◌else◌}
use Rattle.osh_words.specs.declared.command.Command.{Command}
use Rattle.osh_words.specs.Spelled.{Spells}

abbrev pub onto : ℕ → List (List ℕ) → List (List ℕ)
onto b [] = (b ∷ []) ∷ []
onto b (word ∷ words) = (b ∷ word) ∷ words

abbrev pub words_on : List ℕ → List (List ℕ)
words_on [] = [] ∷ []
words_on (b ∷ bs) = if b == 32 then [] ∷ words_on bs else onto b (words_on bs)

-- the line spells no command
abbrev pub IsRefused : List (List ℕ) → Type 0
IsRefused words = (c : Command) → Spells words c → ⊥
