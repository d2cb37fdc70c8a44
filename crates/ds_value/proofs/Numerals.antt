-- Digits, and the numbers that they write.
use Rattle.std.proofs.Common.{◌≡◌, ◌<◌, ◌≤◌, ℕ, suc, ◌+◌, ◌-◌, ◌*◌, true, false, ◌&&◌, List, [], ◌∷◌, ◌++◌, length, drop, get_or, refl, arith, rules, drop-cons}
use Rattle.std.specs.Cmp.{first_so}
use Rattle.std.specs.Char.{is_ascii_digit}
use Rattle.std.specs.Str.{all_ascii_digits}
use Rattle.std.proofs.lemmas.Str.Parse.{IsNumeralModel, numerals_by_fold, tells_all_ascii_digits}
use Rattle.ds_value.specs.Spellings.{number_behind, number_of}

pub own : IsNumeralModel (λ ds. all_ascii_digits ds ≡ true) number_of
own = numerals_by_fold _ tells_all_ascii_digits number_behind (search rules)

-- more digits never make a number smaller
pub number_behind-ge : (n : ℕ) (ds : List ℕ) → n ≤ number_behind n ds
number_behind-ge n [] = omega arith
number_behind-ge n (d ∷ ds) = omega (arith, number_behind-ge (n * 10 + (d - 48)) ds)

pub number_behind-append : (n : ℕ) (xs ys : List ℕ) → number_behind n (xs ++ ys) ≡ number_behind (number_behind n xs) ys
number_behind-append n [] ys = refl
number_behind-append n (x ∷ xs) ys = number_behind-append (n * 10 + (x - 48)) xs ys

-- a text of digits, from the place i on
pub digit_at : (n i : ℕ) (ds : List ℕ) → i < length ds → all_ascii_digits (drop i ds) ≡ true → (is_ascii_digit (get_or ds i 0) ≡ true) × (n * 10 ≤ number_behind n (drop i ds))
digit_at n i ds h e =
    let cons : drop i ds ≡ get_or ds i 0 ∷ drop (suc i) ds = drop-cons ds i 0 h in
    let e' = rw cons at e in
    (first_so (is_ascii_digit (get_or ds i 0)) (all_ascii_digits (drop (suc i) ds)) e', rw cons (omega (arith, number_behind-ge (n * 10 + (get_or ds i 0 - 48)) (drop (suc i) ds))))

pub all_ascii_digits-append : (xs ys : List ℕ) → all_ascii_digits (xs ++ ys) ≡ (all_ascii_digits xs && all_ascii_digits ys)
all_ascii_digits-append [] ys = refl
all_ascii_digits-append (x ∷ xs) ys = elim (is_ascii_digit x) as (λ b. (b && all_ascii_digits (xs ++ ys)) ≡ ((b && all_ascii_digits xs) && all_ascii_digits ys)) [ true ↦ all_ascii_digits-append xs ys | false ↦ refl ]
