-- Numbers that are too large however their digits go on.
use Rattle.std.proofs.Common.{◌≡◌, ◌+◌, ◌*◌, ◌-◌, ◌<◌, ◌≤◌, ℕ, suc, List, [], ◌∷◌, true, false, length, drop, get_or, arith, drop-cons, sym, ap, ◌∙◌}
use Rattle.std.specs.Char.{digit_value}
use Rattle.std.specs.Str.Parse.{digits_value, digits_value_after}
use Rattle.std.proofs.lemmas.Bool.Decides.{nat_tests}
use Rattle.std.proofs.lemmas.Str.{digit_value_digit}
use Rattle.ds_lex.specs.Pieces.{is_digit}
use Rattle.ds_schema.specs.SchemaReading.{is_size}

grows : (n : ℕ) (ds : List ℕ) → n ≤ digits_value_after 10 n ds
grows n [] = omega arith
grows n (c ∷ cs) = omega (arith, grows (n * 10 + digit_value c) cs)

pub digit_is : (c : ℕ) → is_digit c ≡ true → digit_value c + 48 ≡ c
digit_is c h = digit_value_digit c (grind (arith, nat_tests))

-- the value passed the bound at a digit
pub passes : (value high i : ℕ) (bytes : List ℕ) → i < length bytes → is_digit (get_or bytes i 0) ≡ true → high < value * 10 + (get_or bytes i 0 - 48) → digits_value_after 10 value (drop i bytes) ≡ digits_value 10 bytes → high < digits_value 10 bytes
passes value high i bytes lt digit above e =
    let d = digit_is (get_or bytes i 0) digit in
    let n : value * 10 + (get_or bytes i 0 - 48) ≡ value * 10 + digit_value (get_or bytes i 0) = omega (arith, d) in
    let more : digits_value_after 10 (value * 10 + digit_value (get_or bytes i 0)) (drop (suc i) bytes) ≡ digits_value 10 bytes = ap (digits_value_after 10 value) (sym (drop-cons bytes i 0 lt)) ∙ e in
    omega (arith, grows (value * 10 + digit_value (get_or bytes i 0)) (drop (suc i) bytes), more, n, above)

pub too_large : (low high : ℕ) (bytes : List ℕ) → high < digits_value 10 bytes → is_size low high bytes ≡ false
too_large low high bytes h = grind (arith, nat_tests)
