-- A text spells one value of a kind at most, and the written text spells the value.
use Rattle.std.proofs.Common.{◌≡◌, ◌<◌, ◌≤◌, ◌^◌, ◌+◌, ◌-◌, ℕ, zero, suc, ℤ, pos, negsuc, neg_ℤ, unsigned_abs, Bool, true, false, cond, nat_lt, nat_le, ltb-true, eqb-true, ◌==◌, List, [], ◌∷◌, ◌++◌, length, take, drop, replicate, refl, sym, ap, subst, ◌∙◌, arith, length-append, length-take, length-drop}
use Rattle.std.proofs.lemmas.Fmt.{decimal_is_IsNumeral_wide}
use Rattle.std.specs.Cmp.{first_so, second_so}
use Rattle.std.proofs.Math.ListN.{drop_of_length-le, length-replicate}
use Rattle.std.proofs.lemmas.List.{take-append-drop, take_all, append-nil}
use Rattle.std.specs.Fmt.{decimal, signed_decimal}
use Rattle.std.specs.Str.{all_ascii_digits}
use Rattle.ds_value.specs.declared.kind.Kind.{Kind}
use Rattle.ds_value.specs.declared.kind.Kind.TheVariants as kind
use Rattle.ds_value.specs.declared.value.Value.{Value}
use Rattle.ds_value.specs.declared.value.Value.TheVariants.{Int, UInt, Dec, Text, Date}
use Rattle.ds_value.specs.Kinds.{IsKind, fits_kind, is_between}
use Rattle.ds_value.specs.Calendar.{year_of, month_of, day_of}
use Rattle.std.proofs.Math.Nat.{pow-le-pow_right}
use Rattle.ds_value.specs.Spellings.{Sign, Missing, Minus, sign_text, signed, IsNumeral, number_of, SpellsInt, SpellsUInt, SpellsDec, SpellsDate, date_text, HasForm, Spells, written, number_behind, pointed, scaled_digits, minus_text, filled, scaled}
use Rattle.ds_value.proofs.Numerals.{own, number_behind-append, all_ascii_digits-append}
use Rattle.ds_value.proofs.Decimals.{number_behind-zeros}
use Rattle.ds_value.proofs.Wholes.{int_parts, uint_parts, int_within, uint_within}
use Rattle.ds_value.proofs.DecimalTexts.{dec_rest, dec_parts}
use Rattle.ds_value.proofs.DateTexts.{text_once, date_short, is_day_number}
use Rattle.ds_value.proofs.Calendars.{date_of_number}

int_once : (bytes : List ℕ) (y z : ℤ) → SpellsInt bytes y → SpellsInt bytes z → y ≡ z
int_once bytes y z h k = (int_parts bytes y h).1 ∙ sym (int_parts bytes z k).1

uint_once : (bytes : List ℕ) (m n : ℕ) → SpellsUInt bytes m → SpellsUInt bytes n → m ≡ n
uint_once bytes m n h k = (uint_parts bytes m h).2 ∙ sym (uint_parts bytes n k).2

dec_once : (s : ℕ) (bytes : List ℕ) (y z : ℤ) → SpellsDec s bytes y → SpellsDec s bytes z → y ≡ z
dec_once s bytes y z h k =
    let rest = dec_rest s bytes z k in
    (dec_parts s bytes k.whole k.fraction k.numeral.each rest.0 y h).3 ∙ sym rest.1

date_once : (bytes : List ℕ) (y z : ℤ) → SpellsDate bytes y → SpellsDate bytes z → y ≡ z
date_once bytes y z h k =
    let first = date_short h.year h.month h.day h.date in
    let second = date_short k.year k.month k.day k.date in
    let same = text_once h.year h.month h.day k.year k.month k.day first.0 first.1 first.2 second.0 second.1 second.2 (sym h.text ∙ k.text) in
    h.value ∙ rw (same.0, same.1, same.2) (sym k.value)

-- one text has the form of one value of a kind
pub form_once : (k : Kind) (bytes : List ℕ) (v w : Value) → HasForm k bytes v → HasForm k bytes w → v ≡ w
form_once (kind.Int bits) bytes (Int y) (Int z) h i = ap Int (int_once bytes y z h i)
form_once (kind.Int bits) bytes (Int y) w h i = absurd i
form_once (kind.Int bits) bytes v w h i = absurd h
form_once (kind.UInt bits) bytes (UInt m) (UInt n) h i = ap UInt (uint_once bytes m n h i)
form_once (kind.UInt bits) bytes (UInt m) w h i = absurd i
form_once (kind.UInt bits) bytes v w h i = absurd h
form_once (kind.Dec p s) bytes (Dec y) (Dec z) h i = ap Dec (dec_once s bytes y z h i)
form_once (kind.Dec p s) bytes (Dec y) w h i = absurd i
form_once (kind.Dec p s) bytes v w h i = absurd h
form_once (kind.Text max fixed) bytes (Text b) (Text c) h i = ap Text (h ∙ sym i)
form_once (kind.Text max fixed) bytes (Text b) w h i = absurd i
form_once (kind.Text max fixed) bytes v w h i = absurd h
form_once kind.Date bytes (Date y) (Date z) h i = ap Date (date_once bytes y z h i)
form_once kind.Date bytes (Date y) w h i = absurd i
form_once kind.Date bytes v w h i = absurd h

pub spells_once : (k : Kind) (bytes : List ℕ) (v w : Value) → Spells k bytes v → Spells k bytes w → v ≡ w
spells_once k bytes v w h i = form_once k bytes v w h.form i.form

pub spells_fits : (k : Kind) (bytes : List ℕ) (v : Value) → Spells k bytes v → fits_kind k v ≡ true
spells_fits k bytes v h = h.fits

-- the digits of a number below 10 ^ 64 are a numeral that writes it
decimal_numeral : (n : ℕ) → n < 10 ^ 64 → IsNumeral (decimal n) × (number_of (decimal n) ≡ n)
decimal_numeral n h =
    let digits = decimal_is_IsNumeral_wide n h in
    let each = own.from (decimal n) digits.0.1 in
    (record { some = digits.0.0; each = each }, own.same (decimal n) digits.0.1 ∙ digits.1)

int_written : (z : ℤ) → unsigned_abs z < 10 ^ 64 → SpellsInt (signed_decimal z) z
int_written (pos n) h =
    let digits = decimal_numeral n h in
    record { sign = Missing; digits = decimal n; text = refl; numeral = digits.0; value = ap pos (sym digits.1) }
int_written (negsuc n) h =
    let digits = decimal_numeral (suc n) h in
    record { sign = Minus; digits = decimal (suc n); text = refl; numeral = digits.0; value = ap (λ m. neg_ℤ (pos m)) (sym digits.1) }

uint_written : (n : ℕ) → n < 10 ^ 64 → SpellsUInt (decimal n) n
uint_written n h =
    let digits = decimal_numeral n h in
    record { sign = Missing; digits = decimal n; no_minus = (λ (e : Missing ≡ Minus). let wrong : ⊥ = cc in wrong); text = refl; numeral = digits.0; value = sym digits.1 }

-- zeros in front change no number
number_of-zeros : (k : ℕ) (ds : List ℕ) → number_of (replicate k 48 ++ ds) ≡ number_of ds
number_of-zeros k ds =
    number_behind-append 0 (replicate k 48) ds ∙ ap (λ n. number_behind n ds) (number_behind-zeros 0 k ∙ omega arith)

zeros_digits : (k : ℕ) → all_ascii_digits (replicate k 48) ≡ true
zeros_digits zero = refl
zeros_digits (suc k) = zeros_digits k

-- digits with a point before the last s spell what the digits write
digits_pointed : (s : ℕ) (sign : Sign) (ds bytes : List ℕ) → s < length ds → all_ascii_digits ds ≡ true → bytes ≡ sign_text sign ++ pointed s ds → SpellsDec s bytes (signed sign (number_of ds))
digits_pointed s sign ds bytes h each text =
    let whole = take (length ds - s) ds in
    let fraction = drop (length ds - s) ds in
    let parts : whole ++ fraction ≡ ds = take-append-drop (length ds - s) ds in
    let both = sym (all_ascii_digits-append whole fraction) ∙ (ap all_ascii_digits parts ∙ each) in
    let size : length fraction ≡ s = length-drop (length ds - s) ds ∙ omega arith in
    let none : drop s fraction ≡ [] = drop_of_length-le fraction (omega arith) in
    let all : take s fraction ≡ fraction = take_all s fraction (omega arith) in
    let gap : s - length fraction ≡ 0 = omega arith in
    let again : whole ++ scaled s fraction ≡ ds = rw (all, gap, append-nil) parts in
    record {
      sign = sign;
      whole = whole;
      fraction = fraction;
      text = text;
      numeral = record { some = omega (arith, length-take (length ds - s) ds); each = first_so (all_ascii_digits whole) (all_ascii_digits fraction) both };
      digits = second_so (all_ascii_digits whole) (all_ascii_digits fraction) both;
      zeros = rw none refl;
      value = ap (λ (digits : List ℕ). signed sign (number_of digits)) (sym again);
    }

scaled_digits_are : (s n : ℕ) → n < 10 ^ 64 → (s < length (scaled_digits s n)) × (all_ascii_digits (scaled_digits s n) ≡ true) × (number_of (scaled_digits s n) ≡ n)
scaled_digits_are s n h =
    let digits = decimal_numeral n h in
    let zeros = s + 1 - length (decimal n) in
    let long : s < length (replicate zeros 48 ++ decimal n) = omega (arith, length-append (replicate zeros 48) (decimal n), length-replicate {A = ℕ} zeros 48) in
    (long, rw (all_ascii_digits-append (replicate zeros 48) (decimal n), zeros_digits zeros, digits.0.each) refl, number_of-zeros zeros (decimal n) ∙ digits.1)

dec_written : (s : ℕ) (z : ℤ) → unsigned_abs z < 10 ^ 64 → SpellsDec s (minus_text z ++ pointed s (scaled_digits s (unsigned_abs z))) z
dec_written s (pos n) h =
    let digits = scaled_digits_are s n h in
    subst (SpellsDec s (pointed s (scaled_digits s n))) (ap pos digits.2) (digits_pointed s Missing (scaled_digits s n) (pointed s (scaled_digits s n)) digits.0 digits.1 refl)
dec_written s (negsuc n) h =
    let digits = scaled_digits_are s (suc n) h in
    subst (SpellsDec s (45 ∷ pointed s (scaled_digits s (suc n)))) (ap (λ m. neg_ℤ (pos m)) digits.2) (digits_pointed s Minus (scaled_digits s (suc n)) (45 ∷ pointed s (scaled_digits s (suc n))) digits.0 digits.1 refl)

date_written : (z : ℤ) → is_between (neg_ℤ (pos 719162)) (pos 2932896) z ≡ true → SpellsDate (date_text (year_of z) (month_of z) (day_of z)) z
date_written z h =
    let found = date_of_number z (is_day_number z h) in
    record { year = year_of z; month = month_of z; day = day_of z; date = found.0; text = refl; value = sym found.1 }

text_written : (max : ℕ) (fixed : Bool) (b : List ℕ) → cond fixed (length b == max) (nat_le (length b) max) ≡ true → b ≡ cond fixed (filled max b) b
text_written max true b h =
    let full : length b ≡ max = eqb-true (length b) max h in
    let gap : max - length b ≡ 0 = omega arith in
    rw (gap, append-nil) refl
text_written max false b h = refl

ten_to : (p n : ℕ) → p ≤ 38 → nat_lt n (10 ^ p) ≡ true → n < 10 ^ 64
ten_to p n h fits =
    let most : 10 ^ p ≤ 10 ^ 38 = pow-le-pow_right (omega arith) h in
    let less = ltb-true n (10 ^ p) fits in
    omega arith

pub written_spells : (k : Kind) (v : Value) → IsKind k → fits_kind k v ≡ true → Spells k (written k v) v
written_spells (kind.Int bits) (Int z) h fits = record { form = int_written z (let less = int_within bits z h fits in omega arith); fits = fits }
written_spells (kind.UInt bits) (UInt n) h fits = record { form = uint_written n (let less = uint_within bits n h fits in omega arith); fits = fits }
written_spells (kind.Dec p s) (Dec z) h fits = record { form = dec_written s z (ten_to p (unsigned_abs z) h.1.0 fits); fits = fits }
written_spells (kind.Text max fixed) (Text b) h fits = record { form = text_written max fixed b fits; fits = fits }
written_spells kind.Date (Date z) h fits = record { form = date_written z fits; fits = fits }
written_spells k v h fits = cc
