-- What a text that spells a whole number is made of.
use Rattle.std.proofs.Common.{◌≡◌, ◌≢◌, ◌<◌, ◌^◌, ℕ, zero, suc, ℤ, pos, neg_ℤ, unsigned_abs, FitsSigned, w64, Bool, true, false, cond, nat_lt, List, ◌++◌, refl, sym, ap, subst, ◌∙◌, inl, inr, Option, Some, None, MatchOption, arith}
use Rattle.std.specs.Option.{SomeIff}
use Rattle.std.specs.Str.Parse.{starts_with_minus, without_leading_sign}
use Rattle.std.proofs.lemmas.Int.{ints}
use Rattle.ds_value.specs.Kinds.{IsBits, is_between, least_int, greatest_int}
use Rattle.ds_value.specs.Spellings.{Sign, Missing, Plus, Minus, sign_text, IsNumeral, number_of, SpellsInt, SpellsUInt}
use Rattle.ds_value.proofs.Signs.{is_minus, signed-cond, numeral_begins, sign_of, sign_split, sign_front}

-- the number that a text of a sign and digits stands for
abbrev pub int_of : List ℕ → ℤ
int_of bytes = cond (starts_with_minus bytes) (neg_ℤ (pos (number_of (without_leading_sign bytes)))) (pos (number_of (without_leading_sign bytes)))

-- a numeral stands behind a sign
behind : (s : Sign) (bytes digits : List ℕ) → bytes ≡ sign_text s ++ digits → IsNumeral digits → (without_leading_sign bytes ≡ digits) × (starts_with_minus bytes ≡ is_minus s)
behind s bytes digits e h =
    let f = sign_front s digits (numeral_begins digits h) in
    (ap without_leading_sign e ∙ f.0, ap starts_with_minus e ∙ f.1)

pub int_parts : (bytes : List ℕ) (z : ℤ) → SpellsInt bytes z → IsNumeral (without_leading_sign bytes) × (z ≡ int_of bytes)
int_parts bytes z h =
    let b = behind h.sign bytes h.digits h.text h.numeral in
    (subst IsNumeral (sym b.0) h.numeral, rw (b.0, b.1) (h.value ∙ signed-cond h.sign (number_of h.digits)))

pub int_spelled : (bytes : List ℕ) → IsNumeral (without_leading_sign bytes) → SpellsInt bytes (int_of bytes)
int_spelled bytes h =
    let split = sign_split bytes in
    record {
      sign = sign_of bytes;
      digits = without_leading_sign bytes;
      text = split.0;
      numeral = h;
      value = sym (signed-cond (sign_of bytes) (number_of (without_leading_sign bytes)) ∙ ap (λ m. cond m (neg_ℤ (pos (number_of (without_leading_sign bytes)))) (pos (number_of (without_leading_sign bytes)))) split.1);
    }

not_minus : (s : Sign) → s ≢ Minus → is_minus s ≡ false
not_minus Missing h = refl
not_minus Plus h = refl
not_minus Minus h = absurd (h refl)

minus_or_not : (s : Sign) → is_minus s ≡ false → s ≢ Minus
minus_or_not Missing h e = cc
minus_or_not Plus h e = cc
minus_or_not Minus h e = cc

pub uint_parts : (bytes : List ℕ) (n : ℕ) → SpellsUInt bytes n → (starts_with_minus bytes ≡ false) × IsNumeral (without_leading_sign bytes) × (n ≡ number_of (without_leading_sign bytes))
uint_parts bytes n h =
    let b = behind h.sign bytes h.digits h.text h.numeral in
    (b.1 ∙ not_minus h.sign h.no_minus, subst IsNumeral (sym b.0) h.numeral, rw b.0 h.value)

pub uint_spelled : (bytes : List ℕ) → starts_with_minus bytes ≡ false → IsNumeral (without_leading_sign bytes) → SpellsUInt bytes (number_of (without_leading_sign bytes))
uint_spelled bytes m h =
    let split = sign_split bytes in
    record {
      sign = sign_of bytes;
      digits = without_leading_sign bytes;
      no_minus = minus_or_not (sign_of bytes) (split.1 ∙ m);
      text = split.0;
      numeral = h;
      value = refl;
    }

at_eight : (z : ℤ) → is_between (least_int 8) (greatest_int 8) z ≡ true → FitsSigned w64 z
at_eight z h = grind (arith, ints)

at_sixteen : (z : ℤ) → is_between (least_int 16) (greatest_int 16) z ≡ true → FitsSigned w64 z
at_sixteen z h = grind (arith, ints)

at_thirty_two : (z : ℤ) → is_between (least_int 32) (greatest_int 32) z ≡ true → FitsSigned w64 z
at_thirty_two z h = grind (arith, ints)

at_sixty_four : (z : ℤ) → is_between (least_int 64) (greatest_int 64) z ≡ true → FitsSigned w64 z
at_sixty_four z h = grind (arith, ints)

-- whole kinds are narrow
pub int_fits : (bits : ℕ) (z : ℤ) → IsBits bits → is_between (least_int bits) (greatest_int bits) z ≡ true → FitsSigned w64 z
int_fits bits z (inl e) h = at_eight z (subst (λ n. is_between (least_int n) (greatest_int n) z ≡ true) e h)
int_fits bits z (inr (inl e)) h = at_sixteen z (subst (λ n. is_between (least_int n) (greatest_int n) z ≡ true) e h)
int_fits bits z (inr (inr (inl e))) h = at_thirty_two z (subst (λ n. is_between (least_int n) (greatest_int n) z ≡ true) e h)
int_fits bits z (inr (inr (inr e))) h = at_sixty_four z (subst (λ n. is_between (least_int n) (greatest_int n) z ≡ true) e h)

small_int : (z : ℤ) → FitsSigned w64 z → unsigned_abs z < 2 ^ 64
small_int z h = omega (arith, ints)

pub int_within : (bits : ℕ) (z : ℤ) → IsBits bits → is_between (least_int bits) (greatest_int bits) z ≡ true → unsigned_abs z < 2 ^ 64
int_within bits z b h = small_int z (int_fits bits z b h)

pub uint_within : (bits n : ℕ) → IsBits bits → nat_lt n (2 ^ bits) ≡ true → n < 2 ^ 64
uint_within bits n (inl e) h = let k = subst (λ m. nat_lt n (2 ^ m) ≡ true) e h in grind arith
uint_within bits n (inr (inl e)) h = let k = subst (λ m. nat_lt n (2 ^ m) ≡ true) e h in grind arith
uint_within bits n (inr (inr (inl e))) h = let k = subst (λ m. nat_lt n (2 ^ m) ≡ true) e h in grind arith
uint_within bits n (inr (inr (inr e))) h = let k = subst (λ m. nat_lt n (2 ^ m) ≡ true) e h in grind arith

pub size_of : (m : Bool) (n : ℕ) → unsigned_abs (cond m (neg_ℤ (pos n)) (pos n)) ≡ n
size_of true zero = refl
size_of true (suc n) = refl
size_of false n = refl

-- what the bytes spell, where the reader found a numeral
pub int_found : (bits : ℕ) (bytes : List ℕ) (r : Option ℤ) → IsNumeral (without_leading_sign bytes) → SomeIff r (is_between (least_int bits) (greatest_int bits) (int_of bytes) ≡ true) (int_of bytes) → MatchOption r ((z : ℤ) → SpellsInt bytes z → is_between (least_int bits) (greatest_int bits) z ≡ true → ⊥) (λ z. SpellsInt bytes z × (is_between (least_int bits) (greatest_int bits) z ≡ true))
int_found bits bytes None h none = λ z spells fits. none (subst (λ n. is_between (least_int bits) (greatest_int bits) n ≡ true) (int_parts bytes z spells).1 fits)
int_found bits bytes (Some z) h found = (subst (SpellsInt bytes) (sym found.1) (int_spelled bytes h), subst (λ n. is_between (least_int bits) (greatest_int bits) n ≡ true) (sym found.1) found.0)

-- no whole number is spelled where no numeral below 10 ^ 38 stands behind the sign
pub no_int : (bits : ℕ) (bytes : List ℕ) → IsBits bits → ¬ (IsNumeral (without_leading_sign bytes) × (number_of (without_leading_sign bytes) < 10 ^ 38)) → (z : ℤ) → SpellsInt bytes z → is_between (least_int bits) (greatest_int bits) z ≡ true → ⊥
no_int bits bytes b none z spells fits =
    let parts = int_parts bytes z spells in
    let size : unsigned_abs z ≡ number_of (without_leading_sign bytes) = ap unsigned_abs parts.1 ∙ size_of (starts_with_minus bytes) (number_of (without_leading_sign bytes)) in
    let small = int_within bits z b fits in
    none (parts.0, omega arith)

pub uint_found : (bits : ℕ) (bytes : List ℕ) (r : Option ℕ) → starts_with_minus bytes ≡ false → IsNumeral (without_leading_sign bytes) → SomeIff r (nat_lt (number_of (without_leading_sign bytes)) (2 ^ bits) ≡ true) (number_of (without_leading_sign bytes)) → MatchOption r ((n : ℕ) → SpellsUInt bytes n → nat_lt n (2 ^ bits) ≡ true → ⊥) (λ n. SpellsUInt bytes n × (nat_lt n (2 ^ bits) ≡ true))
uint_found bits bytes None m h none = λ n spells fits. none (subst (λ k. nat_lt k (2 ^ bits) ≡ true) (uint_parts bytes n spells).2 fits)
uint_found bits bytes (Some n) m h found = (subst (SpellsUInt bytes) (sym found.1) (uint_spelled bytes m h), subst (λ k. nat_lt k (2 ^ bits) ≡ true) (sym found.1) found.0)

pub no_uint : (bits : ℕ) (bytes : List ℕ) → IsBits bits → ¬ (IsNumeral (without_leading_sign bytes) × (number_of (without_leading_sign bytes) < 10 ^ 38)) → (n : ℕ) → SpellsUInt bytes n → nat_lt n (2 ^ bits) ≡ true → ⊥
no_uint bits bytes b none n spells fits =
    let parts = uint_parts bytes n spells in
    let small = uint_within bits n b fits in
    none (parts.1, let e = parts.2 in omega arith)
