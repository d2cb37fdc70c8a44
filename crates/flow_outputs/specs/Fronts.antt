-- The bytes with which a file begins.
use Rattle.std.specs.Prelude.{◌≡◌, ◌+◌, ℕ, List, take, Option, Some}

-- of a file that is there these are all bytes, or one more than the limit
pub record IsFrontOf (found : Option (List ℕ)) (limit : ℕ) (bytes : List ℕ) : Type 0 where
  pub all : List ℕ
  pub there : found ≡ Some all
  pub is : bytes ≡ take (limit + 1) all
