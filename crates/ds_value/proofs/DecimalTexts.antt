-- What a text that spells a decimal is made of.
use Rattle.std.proofs.Common.{◌≡◌, ◌≢◌, ◌<◌, ◌≤◌, ◌^◌, ℕ, ℤ, pos, neg_ℤ, unsigned_abs, true, false, cond, nat_lt, ◌==◌, List, [], ◌∷◌, ◌++◌, drop, refl, sym, ap, subst, ◌∙◌, ltb-true, lt-ltb, arith}
use Rattle.std.specs.Cmp.{first_so, second_so}
use Rattle.std.specs.Char.{is_ascii_digit}
use Rattle.std.specs.List.{list_all}
use Rattle.std.specs.Str.{all_ascii_digits}
use Rattle.std.specs.Str.Parse.{starts_with_minus, without_leading_sign}
use Rattle.std.proofs.Math.Nat.{pow-le-pow_right}
use Rattle.ds_value.specs.Spellings.{sign_text, signed, IsNumeral, number_of, point_text, scaled, SpellsDec}
use Rattle.ds_value.proofs.Signs.{signed-cond, numeral_begins, begins_more, sign_of, sign_split, sign_front}
use Rattle.ds_value.proofs.Wholes.{size_of}
use Rattle.ds_value.proofs.Decimals.{AreUnits}

point_is_no_digit : {X : Type 0} (b : ℕ) → b ≡ 46 → is_ascii_digit b ≡ true → X
point_is_no_digit b e h = let wrong : false ≡ true = subst (λ n. is_ascii_digit n ≡ true) e h in cc

point_text_injective : (f g : List ℕ) → point_text f ≡ point_text g → f ≡ g
point_text_injective [] [] e = refl
point_text_injective [] (y ∷ g) e = cc
point_text_injective (x ∷ f) [] e = cc
point_text_injective (x ∷ f) (y ∷ g) e = cc

-- digits and a point part a text in one way
pub split_once : (w x f g : List ℕ) → all_ascii_digits w ≡ true → all_ascii_digits x ≡ true → w ++ point_text f ≡ x ++ point_text g → (w ≡ x) × (f ≡ g)
split_once [] [] f g dw dx e = (refl, point_text_injective f g e)
split_once [] (d ∷ ds) [] g dw dx e = cc
split_once [] (d ∷ ds) (a ∷ f) g dw dx e = point_is_no_digit d (let first : 46 ≡ d = cc in sym first) (first_so (is_ascii_digit d) (all_ascii_digits ds) dx)
split_once (c ∷ cs) [] f [] dw dx e = cc
split_once (c ∷ cs) [] f (b ∷ g) dw dx e = point_is_no_digit c (let first : c ≡ 46 = cc in first) (first_so (is_ascii_digit c) (all_ascii_digits cs) dw)
split_once (c ∷ cs) (d ∷ ds) f g dw dx e =
    let rest : cs ++ point_text f ≡ ds ++ point_text g = cc in
    let first : c ≡ d = cc in
    let parts = split_once cs ds f g (second_so (is_ascii_digit c) (all_ascii_digits cs) dw) (second_so (is_ascii_digit d) (all_ascii_digits ds) dx) rest in
    (let same = parts.0 in cc, parts.1)

-- the number that a sign and units stand for
abbrev pub units_of : ℕ → List ℕ → List ℕ → List ℕ → ℤ
units_of s bytes whole fraction = cond (starts_with_minus bytes) (neg_ℤ (pos (number_of (whole ++ scaled s fraction)))) (pos (number_of (whole ++ scaled s fraction)))

-- what stands behind the sign of a text that spells a decimal
pub dec_rest : (s : ℕ) (bytes : List ℕ) (z : ℤ) (h : SpellsDec s bytes z) → (without_leading_sign bytes ≡ h.whole ++ point_text h.fraction) × (z ≡ units_of s bytes h.whole h.fraction)
dec_rest s bytes z h =
    let front = sign_front h.sign (h.whole ++ point_text h.fraction) (begins_more h.whole (point_text h.fraction) (numeral_begins h.whole h.numeral)) in
    (ap without_leading_sign h.text ∙ front.0, h.value ∙ (signed-cond h.sign (number_of (h.whole ++ scaled s h.fraction)) ∙ ap (λ m. cond m (neg_ℤ (pos (number_of (h.whole ++ scaled s h.fraction)))) (pos (number_of (h.whole ++ scaled s h.fraction)))) (sym front.1 ∙ ap starts_with_minus (sym h.text))))

-- no decimal is spelled where the text behind the sign has no such parts
pub no_parts : (s : ℕ) (bytes : List ℕ) → ((whole fraction : List ℕ) → all_ascii_digits whole ≡ true → without_leading_sign bytes ≢ whole ++ point_text fraction) → (z : ℤ) → SpellsDec s bytes z → ⊥
no_parts s bytes none z h = none h.whole h.fraction h.numeral.each (dec_rest s bytes z h).0

-- the parts of a text that spells a decimal are those that the reader found
pub dec_parts : (s : ℕ) (bytes whole fraction : List ℕ) → all_ascii_digits whole ≡ true → without_leading_sign bytes ≡ whole ++ point_text fraction → (z : ℤ) → SpellsDec s bytes z → IsNumeral whole × (all_ascii_digits fraction ≡ true) × (list_all (λ digit. digit == 48) (drop s fraction) ≡ true) × (z ≡ units_of s bytes whole fraction)
dec_parts s bytes whole fraction digits e z h =
    let rest = dec_rest s bytes z h in
    let same = split_once h.whole whole h.fraction fraction h.numeral.each digits (sym rest.0 ∙ e) in
    (subst IsNumeral same.0 h.numeral, rw same.1 at h.digits, rw same.1 at h.zeros, rest.1 ∙ rw (same.0, same.1) refl)

small : (p n : ℕ) → p ≤ 38 → n < 10 ^ p → n < 10 ^ 38
small p n h less = let most : 10 ^ p ≤ 10 ^ 38 = pow-le-pow_right (omega arith) h in omega arith

size : (s : ℕ) (bytes whole fraction : List ℕ) → unsigned_abs (units_of s bytes whole fraction) ≡ number_of (whole ++ scaled s fraction)
size s bytes whole fraction = size_of (starts_with_minus bytes) (number_of (whole ++ scaled s fraction))

pub no_units : (p s : ℕ) (bytes whole fraction : List ℕ) → p ≤ 38 → all_ascii_digits whole ≡ true → without_leading_sign bytes ≡ whole ++ point_text fraction → ¬ (AreUnits s whole fraction) → (z : ℤ) → SpellsDec s bytes z → nat_lt (unsigned_abs z) (10 ^ p) ≡ true → ⊥
no_units p s bytes whole fraction few digits e none z h fits =
    let parts = dec_parts s bytes whole fraction digits e z h in
    let less : unsigned_abs z < 10 ^ p = ltb-true _ _ fits in
    let same = ap unsigned_abs parts.3 ∙ size s bytes whole fraction in
    none (parts.0, parts.1, parts.2, subst (λ n. n < 10 ^ 38) same (small p (unsigned_abs z) few less))

pub too_great : (p s n : ℕ) (bytes whole fraction : List ℕ) → all_ascii_digits whole ≡ true → without_leading_sign bytes ≡ whole ++ point_text fraction → n ≡ number_of (whole ++ scaled s fraction) → 10 ^ p ≤ n → (z : ℤ) → SpellsDec s bytes z → nat_lt (unsigned_abs z) (10 ^ p) ≡ true → ⊥
too_great p s n bytes whole fraction digits e value great z h fits =
    let parts = dec_parts s bytes whole fraction digits e z h in
    let less : unsigned_abs z < 10 ^ p = ltb-true _ _ fits in
    let same = ap unsigned_abs parts.3 ∙ size s bytes whole fraction in
    omega arith

pub dec_spelled : (p s n : ℕ) (bytes whole fraction : List ℕ) (z : ℤ) → without_leading_sign bytes ≡ whole ++ point_text fraction → AreUnits s whole fraction → n ≡ number_of (whole ++ scaled s fraction) → n < 10 ^ p → z ≡ cond (starts_with_minus bytes) (neg_ℤ (pos n)) (pos n) → SpellsDec s bytes z × (nat_lt (unsigned_abs z) (10 ^ p) ≡ true)
dec_spelled p s n bytes whole fraction z e units value below ez =
    let split = sign_split bytes in
    let spelled : SpellsDec s bytes z = record {
      sign = sign_of bytes;
      whole = whole;
      fraction = fraction;
      text = split.0 ∙ ap (λ rest. sign_text (sign_of bytes) ++ rest) e;
      numeral = units.0;
      digits = units.1;
      zeros = units.2;
      value = ez ∙ (ap (λ m. cond m (neg_ℤ (pos n)) (pos n)) (sym split.1) ∙ (sym (signed-cond (sign_of bytes) n) ∙ ap (signed (sign_of bytes)) value));
    } in
    (spelled, lt-ltb _ _ (rw (ez, size_of (starts_with_minus bytes) n) below))
