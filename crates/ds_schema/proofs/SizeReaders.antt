-- Numbers in types: what is read is one of them, and what is one of them is read.
use Rattle.std.proofs.Common.{◌≡◌, ◌<◌, ◌≤◌, ◌^◌, ℕ, List, [], ◌∷◌, Bool, true, false, Ok, Err, length, refl, ap, ◌∙◌, arith}
use Rattle.std.specs.Prelude.{◌&&◌, nat_le, nat_lt}
use Rattle.std.specs.List.{list_all}
use Rattle.std.specs.Cmp.{first_so, second_so}
use Rattle.std.specs.Fmt.{decimal}
use Rattle.std.specs.Str.Parse.{digits_value, IsNumeral, AllDigits}
use Rattle.std.proofs.lemmas.Bool.{leb-true, ltb-true, le-leb, lt-ltb}
use Rattle.std.proofs.lemmas.Fmt.{decimal_is_IsNumeral}
use Rattle.std.proofs.lemmas.Str.Parse.{digit_from_value}
use Rattle.ds_lex.specs.declared.token.Sort.TheVariants as sort
use Rattle.ds_lex.specs.declared.refusal.Refusal.TheVariants as refusal
use Rattle.ds_lex.specs.Pieces.{is_digit}
use Rattle.ds_lex.specs.Lexemes.{Lexeme}
use Rattle.ds_lex.specs.Reading.{refuse, is_sort, sort_at}
use Rattle.ds_lex.specs.Phrases.{Phrase}
use Rattle.ds_lex.proofs.Readers.{IsReader, IsRead, Outcome, CanStand, took, refused, ended, anything, same_sort, sort_same}
use Rattle.ds_schema.specs.declared.schema_text.fault.SchemaWhy.TheVariants.{Syntax, Size}
use Rattle.ds_schema.specs.SchemaReading.{is_size, size_at}
use Rattle.ds_schema.specs.SchemaGrammar.{number}
use Rattle.ds_schema.proofs.Sizes.{digit_is}

all_digits : (bytes : List ℕ) → list_all is_digit bytes ≡ true → AllDigits 10 bytes
all_digits [] h = tt
all_digits (c ∷ bytes) h =
    let digit = first_so (is_digit c) (list_all is_digit bytes) h in
    let small = leb-true c 57 (second_so (nat_le 48 c) (nat_le c 57) digit) in
    (omega (arith, digit_is c digit, small), all_digits bytes (second_so (is_digit c) (list_all is_digit bytes) h))

pub digits_all : (bytes : List ℕ) → AllDigits 10 bytes → list_all is_digit bytes ≡ true
digits_all [] h = refl
digits_all (c ∷ bytes) h =
    let range = digit_from_value c h.0 in
    rw (le-leb 48 c range.0, le-leb c 57 range.1) (digits_all bytes h.1)

-- a number from low to high
abbrev pub sized : ℕ → ℕ → ℕ → Phrase
sized low high n ts rest = (low ≤ n) × (n ≤ high) × number n ts rest

pub size_stands : (low high : ℕ) → low ≤ high → low < 2 ^ 64 → CanStand (sized low high)
size_stands low high h k =
    (low, record { at = 0; sort = sort.Number; bytes = decimal low } ∷ [], λ more. ((let e : low ≤ low = omega arith in e), h, (refl, decimal_is_IsNumeral low k, refl)))

taken : (low high : ℕ) (t : Lexeme) (ts : List Lexeme) → is_sort sort.Number t.sort ≡ true → is_size low high t.bytes ≡ true → size_at low high (t ∷ ts) ≡ Ok (digits_value 10 t.bytes, ts)
unfolding size_at sort_at
taken low high t ts e f = rw (e, f) refl

too_wide : (low high : ℕ) (t : Lexeme) (ts : List Lexeme) → is_sort sort.Number t.sort ≡ true → is_size low high t.bytes ≡ false → size_at low high (t ∷ ts) ≡ refuse t Size
unfolding size_at sort_at
too_wide low high t ts e f = rw (e, f) refl

no_number : (low high : ℕ) (t : Lexeme) (ts : List Lexeme) → is_sort sort.Number t.sort ≡ false → size_at low high (t ∷ ts) ≡ refuse t Syntax
unfolding size_at sort_at
no_number low high t ts e = rw e refl

-- what the test says
tested : (low high : ℕ) (bytes : List ℕ) → is_size low high bytes ≡ true → (low ≤ digits_value 10 bytes) × (digits_value 10 bytes ≤ high) × IsNumeral 10 bytes
tested low high bytes f =
    let others = second_so (nat_lt 0 (length bytes)) (list_all is_digit bytes && (nat_le low (digits_value 10 bytes) && nat_le (digits_value 10 bytes) high)) f in
    let range = second_so (list_all is_digit bytes) (nat_le low (digits_value 10 bytes) && nat_le (digits_value 10 bytes) high) others in
    let some = first_so (nat_lt 0 (length bytes)) (list_all is_digit bytes && (nat_le low (digits_value 10 bytes) && nat_le (digits_value 10 bytes) high)) f in
    let digits = first_so (list_all is_digit bytes) (nat_le low (digits_value 10 bytes) && nat_le (digits_value 10 bytes) high) others in (
      leb-true low (digits_value 10 bytes) (first_so (nat_le low (digits_value 10 bytes)) (nat_le (digits_value 10 bytes) high) range),
      leb-true (digits_value 10 bytes) high (second_so (nat_le low (digits_value 10 bytes)) (nat_le (digits_value 10 bytes) high) range),
      (ltb-true 0 (length bytes) some, all_digits bytes digits),
    )

passes_test : (low high : ℕ) (bytes : List ℕ) → low ≤ digits_value 10 bytes → digits_value 10 bytes ≤ high → IsNumeral 10 bytes → is_size low high bytes ≡ true
passes_test low high bytes above below h = rw (lt-ltb 0 (length bytes) h.0, digits_all bytes h.1, le-leb low (digits_value 10 bytes) above, le-leb (digits_value 10 bytes) high below) refl

size_by : (low high : ℕ) (t : Lexeme) (ts : List Lexeme) (a b : Bool) → is_sort sort.Number t.sort ≡ a → is_size low high t.bytes ≡ b → Outcome (sized low high) (size_at low high) (t ∷ ts) (size_at low high (t ∷ ts))
size_by low high t ts true true e f =
    let h = tested low high t.bytes f in
    rw (taken low high t ts e f) (took (sized low high) (size_at low high) t ts (digits_value 10 t.bytes) (λ more. (h.0, h.1, (same_sort sort.Number t.sort e, (h.2, refl), refl))) (λ more. taken low high t more e f))
size_by low high t ts true false e f = rw (too_wide low high t ts e f) (refused (sized low high) (size_at low high) t ts Size (λ more. too_wide low high t more e f))
size_by low high t ts false b e f = rw (no_number low high t ts e) (refused (sized low high) (size_at low high) t ts Syntax (λ more. no_number low high t more e))

none_left : (low high : ℕ) → size_at low high [] ≡ Err refusal.AtEnd
unfolding size_at sort_at
none_left low high = refl

pub size_reads : (low high : ℕ) → IsReader (sized low high) (size_at low high)
size_reads low high [] = rw (none_left low high) (ended (sized low high) (size_at low high) (none_left low high))
size_reads low high (t ∷ ts) = size_by low high t ts (is_sort sort.Number t.sort) (is_size low high t.bytes) refl refl

pub size_read : (low high : ℕ) → IsRead (sized low high) (size_at low high) anything
size_read low high n [] rest h f = absurd h.2
size_read low high n (t ∷ ts) rest h f =
    let value = h.2.1.1 in
    let number : is_sort sort.Number t.sort ≡ true = ap (is_sort sort.Number) h.2.0 ∙ sort_same sort.Number in
    let fits = passes_test low high t.bytes (omega (arith, value, h.0)) (omega (arith, value, h.1)) h.2.1.0 in
    taken low high t ts number fits ∙ rw (value, h.2.2) refl
