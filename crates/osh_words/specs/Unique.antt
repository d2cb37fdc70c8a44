-- Words spell at most one command.
use Rattle.std.specs.Prelude.{◌≡◌, ℕ, List}
use Rattle.osh_words.specs.declared.command.Command.{Command}
use Rattle.osh_words.specs.Spelled.{Spells}

abbrev pub IsUnique : Type 0
IsUnique = (words : List (List ℕ)) (c d : Command) → Spells words c → Spells words d → c ≡ d
