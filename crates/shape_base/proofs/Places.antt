-- The place of a name among fields.
use Rattle.std.proofs.Common.{◌≡◌, ◌≤◌, ◌+◌, ◌∷◌, [], ℕ, suc, count_by, List, Bool, true, false, not, Option, Some, None, refl, ◌∙◌, cond, arith, length, position, nat_lt}
use Rattle.std.specs.List.{position_or_len}
use Rattle.std.proofs.lemmas.Bool.{ltb-false}
use Rattle.std.proofs.lemmas.List.Sums.{sum_by-cons}

some_by : (y : Bool) (m k : ℕ) → (let r : Option ℕ = cond y (Some m) None in r) ≡ Some k → k ≡ m
some_by true m k e = cc
some_by false m k e = cc

pub place_some : {X : Type 0} (p : X → Bool) (xs : List X) (k : ℕ) → position p xs ≡ Some k → k ≡ position_or_len p xs
place_some p xs k e = some_by (nat_lt (position_or_len p xs) (length xs)) (position_or_len p xs) k e

none_by : (y : Bool) (m n : ℕ) → nat_lt m n ≡ y → (let r : Option ℕ = cond y (Some m) None in r) ≡ None → n ≤ m
none_by true m n h e = cc
none_by false m n h e = ltb-false m n h

short_by : (y : Bool) (m n : ℕ) → m ≤ n → cond y (1 + m) 0 ≤ 1 + n
short_by true m n h = omega arith
short_by false m n h = omega arith

short : {X : Type 0} (p : X → Bool) (xs : List X) → position_or_len p xs ≤ length xs
short p [] = omega arith
short p (x ∷ xs) = let h : cond (not (p x)) (1 + position_or_len p xs) 0 ≤ 1 + length xs = short_by (not (p x)) (position_or_len p xs) (length xs) (short p xs) in omega (arith, h)

pub place_none : {X : Type 0} (p : X → Bool) (xs : List X) → position p xs ≡ None → length xs ≡ position_or_len p xs
place_none p xs e = omega (arith, short p xs, none_by (nat_lt (position_or_len p xs) (length xs)) _ _ refl e)

none_count_by : (x : Bool) (m n c : ℕ) → suc n ≤ cond (not x) (1 + m) 0 → (n ≤ m → c ≡ 0) → cond x 1 0 + c ≡ 0
none_count_by true m n c h go = absurd (omega arith)
none_count_by false m n c h go = omega (arith, go (omega arith))

none_counted : {X : Type 0} (p : X → Bool) (xs : List X) → length xs ≤ position_or_len p xs → count_by p xs ≡ 0
none_counted p [] h = refl
none_counted p (x ∷ xs) h = sum_by-cons (λ y. cond (p y) 1 0) x xs ∙ none_count_by (p x) (position_or_len p xs) (length xs) (count_by p xs) h (none_counted p xs)

-- where none passes, none is counted
pub place_count : {X : Type 0} (p : X → Bool) (xs : List X) → position p xs ≡ None → count_by p xs ≡ 0
place_count p xs e = none_counted p xs (omega (arith, place_none p xs e))
