-- The last digits of a number, and the number that they write.
use Rattle.std.proofs.Common.{◌≡◌, ◌<◌, ◌≤◌, ℕ, zero, suc, ◌+◌, ◌-◌, ◌*◌, ◌/◌, ◌%◌, ◌^◌, true, List, [], ◌∷◌, ◌++◌, length, refl, ◌∙◌, arith, length-append, append_assoc, nat_le, leb-true, le-leb}
use Rattle.std.specs.Cmp.{first_so, second_so}
use Rattle.std.specs.Char.{is_ascii_digit}
use Rattle.std.specs.Str.{all_ascii_digits}
use Rattle.std.proofs.lemmas.List.{append-nil}
use Rattle.std.proofs.Math.Nat.{pow-succ'}
use Rattle.ds_value.specs.Spellings.{number_behind, number_of, last_digits}
use Rattle.ds_value.proofs.Numerals.{number_behind-append, all_ascii_digits-append}

pub length-last_digits : (k n : ℕ) → length (last_digits k n) ≡ k
length-last_digits zero n = refl
length-last_digits (suc k) n = length-append (last_digits k (n / 10)) ((48 + n % 10) ∷ []) ∙ omega (arith, length-last_digits k (n / 10))

one_digit : (d : ℕ) → d < 10 → is_ascii_digit (48 + d) ≡ true
one_digit d h = rw (le-leb 48 (48 + d) (omega arith), le-leb (48 + d) 57 (omega arith)) refl

pub digit_range : (d : ℕ) → is_ascii_digit d ≡ true → (48 ≤ d) × (d ≤ 57)
digit_range d h = (leb-true _ _ (first_so (nat_le 48 d) (nat_le d 57) h), leb-true _ _ (second_so (nat_le 48 d) (nat_le d 57) h))

pub last_digits_are_digits : (k n : ℕ) → all_ascii_digits (last_digits k n) ≡ true
last_digits_are_digits zero n = refl
last_digits_are_digits (suc k) n =
    rw (all_ascii_digits-append (last_digits k (n / 10)) ((48 + n % 10) ∷ []), last_digits_are_digits k (n / 10), one_digit (n % 10) (omega arith)) refl

-- the number that they write, where the number has no more digits
pub number_of-last_digits : (k n : ℕ) → n < 10 ^ k → number_of (last_digits k n) ≡ n
number_of-last_digits zero n h = omega arith
number_of-last_digits (suc k) n h =
    let power = pow-succ' 10 k in
    let front : n / 10 < 10 ^ k = omega arith in
    rw (number_behind-append 0 (last_digits k (n / 10)) ((48 + n % 10) ∷ []), number_of-last_digits k (n / 10) front) (omega arith)

-- digits are the last ones of the number that they write
behind_digits : (k n : ℕ) (ds : List ℕ) → all_ascii_digits ds ≡ true → last_digits (length ds + k) (number_behind n ds) ≡ last_digits k n ++ ds
behind_digits k n [] h = let same : 0 + k ≡ k = omega arith in rw (same, append-nil) refl
behind_digits k n (d ∷ ds) h =
    let range = digit_range d (first_so (is_ascii_digit d) (all_ascii_digits ds) h) in
    let more : suc (length ds) + k ≡ length ds + suc k = omega arith in
    let front : (n * 10 + (d - 48)) / 10 ≡ n = omega arith in
    let last : 48 + (n * 10 + (d - 48)) % 10 ≡ d = omega arith in
    rw (more, behind_digits (suc k) (n * 10 + (d - 48)) ds (second_so (is_ascii_digit d) (all_ascii_digits ds) h), front, last, append_assoc) refl

pub last_digits-number_of : (ds : List ℕ) → all_ascii_digits ds ≡ true → last_digits (length ds) (number_of ds) ≡ ds
last_digits-number_of ds h = let same : length ds + 0 ≡ length ds = omega arith in rw same at (behind_digits 0 0 ds h)

number_behind-lt : (n k : ℕ) (ds : List ℕ) → n < 10 ^ k → all_ascii_digits ds ≡ true → number_behind n ds < 10 ^ (k + length ds)
number_behind-lt n k [] h e = let same : k + 0 ≡ k = omega arith in rw same h
number_behind-lt n k (d ∷ ds) h e =
    let range = digit_range d (first_so (is_ascii_digit d) (all_ascii_digits ds) e) in
    let power = pow-succ' 10 k in
    let more : k + suc (length ds) ≡ suc k + length ds = omega arith in
    rw more (number_behind-lt (n * 10 + (d - 48)) (suc k) ds (omega arith) (second_so (is_ascii_digit d) (all_ascii_digits ds) e))

pub number_of-lt : (ds : List ℕ) → all_ascii_digits ds ≡ true → number_of ds < 10 ^ length ds
number_of-lt ds e = let same : 0 + length ds ≡ length ds = omega arith in rw same at (number_behind-lt 0 0 ds (omega arith) e)
