-- What is left of a line behind a field.
use Rattle.std.specs.Prelude.{ℕ, List, [], ◌∷◌, Bool, true, false, Option, None, Some}

abbrev pub left_of : Bool → List ℕ → Option (List ℕ)
left_of true rest = Some rest
left_of false rest = None

abbrev pub after : List ℕ → Option (List ℕ)
after [] = None
after (b ∷ bs) = Some bs
