-- Single words: names of files, and numbers.
use Rattle.std.proofs.Common.{◌≡◌, ◌≤◌, ◌<◌, ◌^◌, ℕ, List, [], ◌∷◌, length, Result, Err, Option, Some, None, Bool, true, false, refl, subst, arith, rules}
use Rattle.std.specs.Prelude.{if◌then◌else◌}
use Rattle.std.specs.List.{list_all}
use Rattle.std.specs.Str.Parse.{ParsesUnsigned, digits_value}
use Rattle.std.proofs.lemmas.Str.Parse.{IsNumeralModel, numerals_by_value, parse_digits, digits_value_short}
use Rattle.std.proofs.lemmas.List.Sums.{AllPass-from_list_all, list_all-from_AllPass}
use Rattle.std.proofs.lemmas.Bool.{leb-true, le-leb, not-true, not_from_false, and_parts, and_from}
use Rattle.ds_value.specs.Names.{IsName, is_name_byte}
use Rattle.osh_words.specs.Spelled.{IsFile, Writes, begins_with_dash}
use Rattle.osh_words.specs.Read.{is_digit, is_file, file_of, is_number, number_of}

pub file_tested : (word : List ℕ) → IsFile word → is_file word ≡ true
file_tested word f =
    and_from _ _ (le-leb _ _ f.name.some) (and_from _ _ (le-leb _ _ f.name.short) (and_from _ _ (list_all-from_AllPass is_name_byte word f.name.each) (not_from_false _ f.plain)))

pub tested_file : (word : List ℕ) → is_file word ≡ true → IsFile word
tested_file word t =
    let a = and_parts _ _ t in
    let b = and_parts _ _ a.1 in
    let d = and_parts _ _ b.1 in
    record {
      name = record { some = leb-true _ _ a.0; short = leb-true _ _ b.0; each = AllPass-from_list_all is_name_byte word d.0 };
      plain = not-true _ d.1;
    }

pub file_read : (word name : List ℕ) → begins_with_dash word ≡ false → IsName word × (name ≡ word) → file_of word ≡ Some name
file_read word name p n = rw (file_tested word (record { name = n.0; plain = p }), n.1) refl

pub digits : IsNumeralModel (λ ds. list_all is_digit ds ≡ true) (digits_value 10)
digits = numerals_by_value _ (search rules)

pub number_tested : (low high : ℕ) (word : List ℕ) (n : ℕ) → Writes low high word n → is_number low high word ≡ true
number_tested low high word n w =
    let least : low ≤ digits_value 10 word = omega (arith, w.value, w.least) in
    let most : digits_value 10 word ≤ high = omega (arith, w.value, w.most) in
    and_from _ _ (digits.from word w.digits.1) (and_from _ _ (le-leb _ _ w.digits.0) (and_from _ _ (le-leb _ _ w.short) (and_from _ _ (le-leb _ _ least) (le-leb _ _ most))))

pub number_read : (low high : ℕ) (word : List ℕ) (n : ℕ) → Writes low high word n → number_of low high word ≡ Some n
number_read low high word n w = rw (number_tested low high word n w, w.value) refl

pub tested_number : (low high : ℕ) (word : List ℕ) → is_number low high word ≡ true → Writes low high word (digits_value 10 word)
tested_number low high word t =
    let a = and_parts _ _ t in
    let b = and_parts _ _ a.1 in
    let d = and_parts _ _ b.1 in
    let e = and_parts _ _ d.1 in
    record { digits = (leb-true _ _ b.0, digits.to word a.0); short = leb-true _ _ d.0; value = refl; least = leb-true _ _ e.0; most = leb-true _ _ e.1 }

one_number : (b : Bool) (low high : ℕ) (word : List ℕ) (n : ℕ) → (b ≡ true → Writes low high word (digits_value 10 word)) → (let r : Option ℕ = if b then Some (digits_value 10 word) else None in r) ≡ Some n → Writes low high word n
one_number true low high word n w e = let same : digits_value 10 word ≡ n = cc in let P : ℕ → Type 0 = λ m. Writes low high word m in subst P same (w refl)
one_number false low high word n w e = cc

pub read_number : (low high : ℕ) (word : List ℕ) (n : ℕ) → number_of low high word ≡ Some n → Writes low high word n
read_number low high word n e = one_number (is_number low high word) low high word n (tested_number low high word) e

-- at most 19 digits write a number below 2 ^ 64, so only the empty word isn't parsed
pub unparsed : {E : Type 0} → (low high : ℕ) (word : List ℕ) (e : E) → list_all is_digit word ≡ true → length word ≤ 19 → ParsesUnsigned 64 10 word (let r : Result ℕ E = Err e in r) → number_of low high word ≡ None
unparsed low high [] e d s p = refl
unparsed low high (b ∷ bs) e d s p =
    let small : digits_value 10 (b ∷ bs) < 10 ^ 19 = digits_value_short digits (b ∷ bs) 19 d s in
    absurd (parse_digits digits 64 (b ∷ bs) (let r : Result ℕ _ = Err e in r) p d (omega arith, omega arith))
