-- Digits, a point and digits.
use Rattle.std.proofs.Common.{◌≡◌, ◌≢◌, ◌<◌, ◌≤◌, ℕ, zero, suc, ◌+◌, ◌-◌, ◌*◌, ◌^◌, min, Bool, true, false, cond, ◌==◌, eqb-true, List, [], ◌∷◌, ◌++◌, length, take, drop, get_or, replicate, refl, sym, ap, ◌∙◌, inl, inr, Option, Some, None, arith, drop-cons, length-append, length-drop, add-one}
use Rattle.std.specs.Cmp.{first_so, second_so}
use Rattle.std.specs.Char.{is_ascii_digit}
use Rattle.std.specs.List.{take_while, list_all}
use Rattle.std.specs.Option.{SomeIff}
use Rattle.std.specs.Str.{all_ascii_digits}
use Rattle.std.proofs.lemmas.Bool.{cases_lt}
use Rattle.std.proofs.Math.Nat.{mul_assoc, pow-succ'}
use Rattle.std.proofs.Math.ListN.{drop_of_length-le}
use Rattle.std.proofs.lemmas.List.{take-append-drop, take_all, append-nil, take_min}
use Rattle.std.proofs.lemmas.List.Sums.{take_while-cons}
use Rattle.ds_value.specs.Spellings.{number_behind, number_of, IsNumeral, point_text, scaled}
use Rattle.ds_value.proofs.Numerals.{number_behind-ge, number_behind-append, all_ascii_digits-append}

front_digits : (c : Bool) (b : ℕ) (bs : List ℕ) → is_ascii_digit b ≡ c → all_ascii_digits (take (length (take_while is_ascii_digit bs)) bs) ≡ true → all_ascii_digits (take (length (cond c (b ∷ take_while is_ascii_digit bs) [])) (b ∷ bs)) ≡ true
front_digits true b bs e h = rw e h
front_digits false b bs e h = refl

-- the bytes that are counted are digits
pub counted_digits : (bytes : List ℕ) → all_ascii_digits (take (length (take_while is_ascii_digit bytes)) bytes) ≡ true
counted_digits [] = refl
counted_digits (b ∷ bs) = rw (take_while-cons is_ascii_digit b bs) (front_digits (is_ascii_digit b) b bs refl (counted_digits bs))

-- no digit stands first
abbrev pub StopsDigits : List ℕ → Type 0
StopsDigits [] = Unit {0}
StopsDigits (b ∷ bs) = is_ascii_digit b ≡ false

pub point_stops : (fraction : List ℕ) → StopsDigits (point_text fraction)
point_stops [] = tt
point_stops (d ∷ ds) = refl

-- so many digits stand in front
pub count_front : (whole rest : List ℕ) → all_ascii_digits whole ≡ true → StopsDigits rest → length (take_while is_ascii_digit (whole ++ rest)) ≡ length whole
count_front [] [] h stops = refl
count_front [] (b ∷ bs) h stops = rw (take_while-cons is_ascii_digit b bs, stops) refl
count_front (d ∷ ds) rest h stops = rw (take_while-cons is_ascii_digit d (ds ++ rest), first_so (is_ascii_digit d) (all_ascii_digits ds) h) (ap suc (count_front ds rest (second_so (is_ascii_digit d) (all_ascii_digits ds) h) stops))

pub all_counted : (n : ℕ) (bytes : List ℕ) → n ≡ length (take_while is_ascii_digit bytes) → n ≡ length bytes → all_ascii_digits bytes ≡ true
all_counted n bytes e h =
    let all : take (length (take_while is_ascii_digit bytes)) bytes ≡ bytes = take_all (length (take_while is_ascii_digit bytes)) bytes (omega arith) in
    rw all at (counted_digits bytes)

pub point_text-some : (fraction : List ℕ) → 0 < length fraction → point_text fraction ≡ 46 ∷ fraction
point_text-some [] h = absurd (omega arith)
point_text-some (d ∷ ds) h = refl

get_or-front : (whole : List ℕ) (b : ℕ) (rest : List ℕ) → get_or (whole ++ b ∷ rest) (length whole) 0 ≡ b
get_or-front [] b rest = refl
get_or-front (w ∷ ws) b rest = get_or-front ws b rest

-- behind the digits stands a point, and something behind it
pub point_at : (n : ℕ) (bytes whole fraction : List ℕ) → all_ascii_digits whole ≡ true → bytes ≡ whole ++ point_text fraction → n ≡ length (take_while is_ascii_digit bytes) → n ≢ length bytes → (get_or bytes n 0 ≡ 46) × (n + 1 < length bytes)
point_at n bytes whole [] d e c h =
    let front = count_front whole [] d tt in
    let same : length (take_while is_ascii_digit bytes) ≡ length whole = rw e front in
    absurd (h (c ∙ same ∙ sym (ap length e ∙ simp length-append (omega arith))))
point_at n bytes whole (f ∷ fs) d e c h =
    let front = count_front whole (46 ∷ f ∷ fs) d refl in
    let same : n ≡ length whole = c ∙ (ap (λ bs. length (take_while is_ascii_digit bs)) e ∙ front) in
    let long : length bytes ≡ length whole + suc (suc (length fs)) = ap length e ∙ length-append whole (46 ∷ f ∷ fs) in
    (ap (λ bs. get_or bs n 0) e ∙ (ap (λ k. get_or (whole ++ 46 ∷ f ∷ fs) k 0) same ∙ get_or-front whole 46 (f ∷ fs)), omega arith)

pub whole_rest : (n : ℕ) (bytes : List ℕ) → take (length bytes - n) (drop n bytes) ≡ drop n bytes
whole_rest n bytes = take_all (length bytes - n) (drop n bytes) (omega (arith, length-drop n bytes))

-- the text is its digits, the point and the rest
pub point_split : (n : ℕ) (bytes : List ℕ) → get_or bytes n 0 ≡ 46 → n + 1 < length bytes → bytes ≡ take n bytes ++ point_text (take (length bytes - (n + 1)) (drop (n + 1) bytes))
point_split n bytes e h =
    let cons : drop n bytes ≡ 46 ∷ drop (n + 1) bytes = drop-cons bytes n 0 (omega arith) ∙ rw (e, add-one) refl in
    let some : point_text (drop (n + 1) bytes) ≡ 46 ∷ drop (n + 1) bytes = point_text-some (drop (n + 1) bytes) (omega (arith, length-drop (n + 1) bytes)) in
    rw (whole_rest (n + 1) bytes, some, ← cons) (sym (take-append-drop n bytes))

-- where every byte is a digit, nothing stands behind them
pub whole_alone : (n : ℕ) (bytes : List ℕ) → n ≡ length bytes → bytes ≡ bytes ++ point_text (take (length bytes - n) (drop n bytes))
whole_alone n bytes h = let none : length bytes - n ≡ 0 = omega arith in rw none (sym (append-nil bytes))

pub number_behind-zeros : (n k : ℕ) → number_behind n (replicate k 48) ≡ n * 10 ^ k
number_behind-zeros n zero = omega arith
number_behind-zeros n (suc k) = number_behind-zeros (n * 10 + (48 - 48)) k ∙ (ap (λ m. m * 10 ^ k) (omega arith) ∙ (mul_assoc n 10 (10 ^ k) ∙ ap (λ m. n * m) (sym (pow-succ' 10 k))))

-- the number of the whole part and of so many places behind the point
pub number_of-scaled : (s : ℕ) (whole fraction : List ℕ) → number_of (whole ++ scaled s fraction) ≡ number_behind (number_of whole) (take s fraction) * 10 ^ (s - length fraction)
number_of-scaled s whole fraction =
    number_behind-append 0 whole (scaled s fraction) ∙ (number_behind-append (number_of whole) (take s fraction) (replicate (s - length fraction) 48) ∙ number_behind-zeros (number_behind (number_of whole) (take s fraction)) (s - length fraction))

take-min : (s : ℕ) (xs : List ℕ) → take (min (length xs) s) xs ≡ take s xs
take-min s xs = ap (λ n. take n xs) (omega arith) ∙ take_min s xs

drop-min : (s : ℕ) (xs : List ℕ) → drop (min (length xs) s) xs ≡ drop s xs
drop-min s xs =
    elim (cases_lt s (length xs)) [
      | inl less ↦ ap (λ n. drop n xs) (omega arith)
      | inr le ↦ drop_of_length-le xs (omega arith) ∙ sym (drop_of_length-le xs le)
    ]

zeros_are_digits : (ds : List ℕ) → list_all (λ digit. digit == 48) ds ≡ true → all_ascii_digits ds ≡ true
zeros_are_digits [] h = refl
zeros_are_digits (d ∷ ds) h =
    let zero_first : d ≡ 48 = eqb-true d 48 (first_so (d == 48) (list_all (λ digit. digit == 48) ds) h) in
    rw zero_first (zeros_are_digits ds (second_so (d == 48) (list_all (λ digit. digit == 48) ds) h))

take_digits : (s : ℕ) (ds : List ℕ) → all_ascii_digits ds ≡ true → all_ascii_digits (take s ds) ≡ true
take_digits s ds h = first_so (all_ascii_digits (take s ds)) (all_ascii_digits (drop s ds)) (sym (all_ascii_digits-append (take s ds) (drop s ds)) ∙ (ap all_ascii_digits (take-append-drop s ds) ∙ h))

all_digits : (s : ℕ) (ds : List ℕ) → all_ascii_digits (take s ds) ≡ true → list_all (λ digit. digit == 48) (drop s ds) ≡ true → all_ascii_digits ds ≡ true
all_digits s ds h z = sym (ap all_ascii_digits (take-append-drop s ds)) ∙ (all_ascii_digits-append (take s ds) (drop s ds) ∙ rw h (zeros_are_digits (drop s ds) z))

-- what units of 10 ^ -s ask of the digits before and behind the point
abbrev pub AreUnits : ℕ → List ℕ → List ℕ → Type 0
AreUnits s whole fraction = IsNumeral whole × (all_ascii_digits fraction ≡ true) × (list_all (λ digit. digit == 48) (drop s fraction) ≡ true) × (number_of (whole ++ scaled s fraction) < 10 ^ 38)

pub number_of-le : (s : ℕ) (whole fraction : List ℕ) → number_behind (number_of whole) (take s fraction) ≤ number_of (whole ++ scaled s fraction)
number_of-le s whole fraction =
    rw (number_behind-append 0 whole (scaled s fraction), number_behind-append (number_of whole) (take s fraction) (replicate (s - length fraction) 48))
    (number_behind-ge (number_behind (number_of whole) (take s fraction)) (replicate (s - length fraction) 48))

pub no_whole : (s : ℕ) (whole fraction : List ℕ) → ¬ (IsNumeral whole × (number_of whole < 10 ^ 38)) → ¬ (AreUnits s whole fraction)
no_whole s whole fraction none h =
    let more = number_behind-ge (number_of whole) (take s fraction) in
    let le = number_of-le s whole fraction in
    let below = h.3 in
    none (h.0, omega arith)

fraction_refused : (s : ℕ) (whole fraction : List ℕ) → ¬ ((all_ascii_digits (take (min (length fraction) s) fraction) ≡ true) × (number_behind (number_of whole) (take (min (length fraction) s) fraction) < 10 ^ 38)) → ¬ (AreUnits s whole fraction)
fraction_refused s whole fraction none h =
    let le = number_of-le s whole fraction in
    let below = h.3 in
    none (rw (take-min s fraction) (take_digits s fraction h.1, omega arith))

units_read : (s : ℕ) (whole fraction : List ℕ) (n : ℕ) (r : Option ℕ) → list_all (λ digit. digit == 48) (drop (min (length fraction) s) fraction) ≡ true → IsNumeral whole → all_ascii_digits (take (min (length fraction) s) fraction) ≡ true → n ≡ number_behind (number_of whole) (take (min (length fraction) s) fraction) → SomeIff r (n * 10 ^ (s - min (length fraction) s) < 10 ^ 38) (n * 10 ^ (s - min (length fraction) s)) → SomeIff r (AreUnits s whole fraction) (number_of (whole ++ scaled s fraction))
units_read s whole fraction n r zeros numeral digits e found =
    let gap : s - min (length fraction) s ≡ s - length fraction = omega arith in
    let value : n * 10 ^ (s - min (length fraction) s) ≡ number_of (whole ++ scaled s fraction) = ap (λ m. m * 10 ^ (s - min (length fraction) s)) (e ∙ ap (number_behind (number_of whole)) (take-min s fraction)) ∙ (ap (λ k. number_behind (number_of whole) (take s fraction) * 10 ^ k) gap ∙ sym (number_of-scaled s whole fraction)) in
    let zeros' = rw (drop-min s fraction) at zeros in
    let all = all_digits s fraction (rw (take-min s fraction) at digits) zeros' in
    exact r (λ below. (numeral, all, zeros', below)) (rw value at found)
  where
    exact : (r : Option ℕ) → (number_of (whole ++ scaled s fraction) < 10 ^ 38 → AreUnits s whole fraction) → SomeIff r (number_of (whole ++ scaled s fraction) < 10 ^ 38) (number_of (whole ++ scaled s fraction)) → SomeIff r (AreUnits s whole fraction) (number_of (whole ++ scaled s fraction))
    exact None up h = λ units. h units.3
    exact (Some x) up h = (up h.0, h.1)

-- the same, of the numbers as the reader has them: so many digits are kept, and the whole part's number is w
pub no_fraction : (s k w : ℕ) (whole fraction : List ℕ) → k ≡ min (length fraction) s → w ≡ number_of whole → ¬ ((all_ascii_digits (take k fraction) ≡ true) × (number_behind w (take k fraction) < 10 ^ 38)) → ¬ (AreUnits s whole fraction)
no_fraction s k w whole fraction ek ew none = fraction_refused s whole fraction (λ h. none (rw (ek, ew) h))

pub units_found : (s k w n : ℕ) (whole fraction : List ℕ) (r : Option ℕ) → k ≡ min (length fraction) s → w ≡ number_of whole → list_all (λ digit. digit == 48) (take (length fraction - k) (drop k fraction)) ≡ true → IsNumeral whole → all_ascii_digits (take k fraction) ≡ true → n ≡ number_behind w (take k fraction) → SomeIff r (n * 10 ^ (s - k) < 10 ^ 38) (n * 10 ^ (s - k)) → SomeIff r (AreUnits s whole fraction) (number_of (whole ++ scaled s fraction))
units_found s k w n whole fraction r ek ew zeros numeral digits e found =
    units_read s whole fraction n r (rw (whole_rest k fraction, ek) at zeros) numeral (rw ek at digits) (rw (ew, ek) at e) (rw ek at found)
