-- Which calls of an object in memory fail. It keeps a list of numbers and the number of its next call.
use Rattle.std.specs.Prelude.{◌≡◌, ◌≢◌, ◌+◌, ◌-◌, ◌^◌, Bool, IsTrue, List, [], ℕ, min, nat_eq}
use Rattle.std.specs.List.{list_any}

abbrev pub is_listed : List ℕ → ℕ → Bool
is_listed numbers call = list_any (λ n. nat_eq n call) numbers

-- the next call is one of those that are to fail
abbrev pub NextFails : {P : Type 0} → (P → List ℕ) → (P → ℕ) → P → Type 0
NextFails numbers calls p = IsTrue (is_listed (numbers p) (calls p))

-- one call was counted, and the list stays; where no number is listed, none is counted
pub record IsCounted {P : Type 0} (numbers : P → List ℕ) (calls : P → ℕ) (before now : P) : Type 0 where
  pub list : numbers now ≡ numbers before
  pub once : numbers before ≢ [] → calls now ≡ min (calls before + 1) (2 ^ 64 - 1)

-- the same list, with no call so far
pub record StartsAnew {P : Type 0} (numbers : P → List ℕ) (calls : P → ℕ) (given fresh : P) : Type 0 where
  pub list : numbers fresh ≡ numbers given
  pub first : calls fresh ≡ 0
