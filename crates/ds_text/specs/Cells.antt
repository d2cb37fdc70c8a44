-- The fields of a delimited line as text: plain, or between quotes with each quote inside twice.
use Rattle.std.specs.Prelude.{◌≡◌, ◌==◌, ◌++◌, ℕ, List, [], ◌∷◌, Bool, true, false, Option, None, Some, if◌then◌else◌}
use Rattle.std.specs.List.{AllByRecursion}

-- a field of a line, without the quotes around it
pub record Cell : Type 0 where
  pub quoted : Bool
  pub bytes : List ℕ

-- each quote twice
abbrev pub doubled : List ℕ → List ℕ
doubled [] = []
doubled (b ∷ bs) = if b == 34 then 34 ∷ 34 ∷ doubled bs else b ∷ doubled bs

abbrev pub text_of : Bool → List ℕ → List ℕ
text_of true bytes = 34 ∷ (doubled bytes ++ 34 ∷ [])
text_of false bytes = bytes

abbrev pub cell_text : Cell → List ℕ
cell_text c = text_of c.quoted c.bytes

abbrev pub BeginsPlain : List ℕ → Type 0
BeginsPlain [] = Unit {0}
BeginsPlain (b ∷ bs) = (b == 34) ≡ false

-- a plain field doesn't begin with a quote, and has no delimiter
abbrev pub IsText : ℕ → Bool → List ℕ → Type 0
IsText d true bytes = Unit {0}
IsText d false bytes = BeginsPlain bytes × AllByRecursion (λ b. (b == d) ≡ false) bytes

abbrev pub IsCell : ℕ → Cell → Type 0
IsCell d c = IsText d c.quoted c.bytes

-- what stands behind a field: nothing, or a delimiter and further fields
abbrev pub behind : ℕ → Option (List ℕ) → List ℕ
behind d None = []
behind d (Some rest) = d ∷ rest
