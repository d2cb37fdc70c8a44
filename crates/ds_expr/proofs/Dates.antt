-- Dates by their texts.
use Rattle.std.proofs.Common.{◌≡◌, ℕ, ℤ, List, Bool, true, false, Some, None, refl, sym, ap, subst, ◌∙◌, take, drop}
use Rattle.std.specs.Prelude.{if◌then◌else◌, ◌&&◌, nat_le}
use Rattle.std.specs.Str.{bytes_eq}
use Rattle.std.specs.Cmp.{first_so, second_so}
use Rattle.std.proofs.lemmas.Bool.{leb-true, le-leb}
use Rattle.std.proofs.lemmas.Slice.Eq.{bytes_eq-Decides}
use Rattle.ds_value.specs.declared.kind.Kind.TheVariants as kind
use Rattle.ds_value.specs.declared.value.Value.{Value}
use Rattle.ds_value.specs.declared.value.Value.TheVariants.{Null, Int, UInt, Dec, Text, Date}
use Rattle.ds_value.specs.Kinds.{fits_kind}
use Rattle.ds_value.specs.Calendar.{IsDate, days_in_month, day_number}
use Rattle.ds_value.specs.Spellings.{Spells, SpellsDate, number_of, date_text}
use Rattle.ds_value.proofs.LastDigits.{number_of-last_digits}
use Rattle.ds_value.proofs.DateTexts.{of_form, date_short, spelled_in_range}
use Rattle.ds_expr.specs.Literals.{is_date, date_literal, day_in, DatesAreSpelled}

is_date_so : (y m d : ℕ) → IsDate y m d → is_date y m d ≡ true
is_date_so y m d h =
    rw (le-leb 1 y h.first_year, le-leb y 9999 h.last_year, le-leb 1 m h.first_month, le-leb m 12 h.last_month, le-leb 1 d h.first_day, le-leb d (days_in_month y m) h.last_day) refl

date_is_so : (y m d : ℕ) → is_date y m d ≡ true → IsDate y m d
date_is_so y m d h =
    let a = first_so _ _ h in
    let b = first_so _ _ a in
    let c = first_so _ _ b in
    let e = first_so _ _ c in
    record {
      first_year = leb-true 1 y (first_so _ _ e);
      last_year = leb-true y 9999 (second_so (nat_le 1 y) _ e);
      first_month = leb-true 1 m (second_so (nat_le 1 y && nat_le y 9999) _ c);
      last_month = leb-true m 12 (second_so (nat_le 1 y && nat_le y 9999 && nat_le 1 m) _ b);
      first_day = leb-true 1 d (second_so (nat_le 1 y && nat_le y 9999 && nat_le 1 m && nat_le m 12) _ a);
      last_day = leb-true d (days_in_month y m) (second_so (nat_le 1 y && nat_le y 9999 && nat_le 1 m && nat_le m 12 && nat_le 1 d) _ h);
    }

same_bytes : (a b : List ℕ) → a ≡ b → bytes_eq a b ≡ true
same_bytes a b e = (bytes_eq-Decides a b).1 e

bytes_same : (a b : List ℕ) → bytes_eq a b ≡ true → a ≡ b
bytes_same a b e = (bytes_eq-Decides a b).0 e

-- the text of a date has its day
text_has_day : (bytes : List ℕ) (y m d : ℕ) → IsDate y m d → bytes ≡ date_text y m d → date_literal bytes ≡ Some (day_number y m d)
unfolding date_literal
text_has_day bytes y m d h e =
    let f = of_form bytes y m d e in
    let s = date_short y m d h in
    let a : number_of (take 4 bytes) ≡ y = ap number_of f.3 ∙ number_of-last_digits 4 y s.0 in
    let b : number_of (take 2 (drop 5 bytes)) ≡ m = ap number_of f.4 ∙ number_of-last_digits 2 m s.1 in
    let c : number_of (take 2 (drop 8 bytes)) ≡ d = ap (λ (bs : List ℕ). number_of (take 2 bs)) f.5 ∙ number_of-last_digits 2 d s.2 in
    rw (a, b, c, is_date_so y m d h, same_bytes bytes (date_text y m d) e) refl

-- a value that the bytes spell as a date is their day
pub spelled_day : (bytes : List ℕ) (v : Value) → Spells kind.Date bytes v → day_in v ≡ date_literal bytes
spelled_day bytes (Date day) s = ap (λ (n : ℤ). Some n) s.form.value ∙ sym (text_has_day bytes s.form.year s.form.month s.form.day s.form.date s.form.text)
spelled_day bytes Null s = absurd s.form
spelled_day bytes (Int z) s = absurd s.form
spelled_day bytes (UInt n) s = absurd s.form
spelled_day bytes (Dec z) s = absurd s.form
spelled_day bytes (Text b) s = absurd s.form

day_spelled : (bytes : List ℕ) (y m d : ℕ) → is_date y m d ≡ true → bytes_eq bytes (date_text y m d) ≡ true → Spells kind.Date bytes (Date (day_number y m d))
day_spelled bytes y m d h e =
    let s : SpellsDate bytes (day_number y m d) = record { year = y; month = m; day = d; date = date_is_so y m d h; text = bytes_same bytes (date_text y m d) e; value = refl } in
    record { form = s; fits = spelled_in_range bytes (day_number y m d) s }

none_if : (t : Bool) (bytes : List ℕ) (y m d : ℕ) → (is_date y m d && bytes_eq bytes (date_text y m d)) ≡ t → ((v : Value) → Spells kind.Date bytes v → ⊥) → None ≡ (if t then Some (day_number y m d) else None)
none_if false bytes y m d e none = refl
none_if true bytes y m d e none = absurd (none (Date (day_number y m d)) (day_spelled bytes y m d (first_so _ _ e) (second_so (is_date y m d) _ e)))

-- bytes that spell no date have no day
pub no_day : (bytes : List ℕ) → ((v : Value) → Spells kind.Date bytes v → ⊥) → None ≡ date_literal bytes
unfolding date_literal
no_day bytes none = none_if _ bytes (number_of (take 4 bytes)) (number_of (take 2 (drop 5 bytes))) (number_of (take 2 (drop 8 bytes))) refl none

spelled_if : (t : Bool) (bytes : List ℕ) (y m d : ℕ) (z : ℤ) → (is_date y m d && bytes_eq bytes (date_text y m d)) ≡ t → (if t then Some (day_number y m d) else None) ≡ Some z → Spells kind.Date bytes (Date z)
spelled_if false bytes y m d z e h = absurd cc
spelled_if true bytes y m d z e h =
    let same : day_number y m d ≡ z = cc in
    subst (λ (n : ℤ). Spells kind.Date bytes (Date n)) same (day_spelled bytes y m d (first_so _ _ e) (second_so (is_date y m d) _ e))

-- a text with a day spells it
literal_spelled : (bytes : List ℕ) (z : ℤ) → date_literal bytes ≡ Some z → Spells kind.Date bytes (Date z)
unfolding date_literal
literal_spelled bytes z e = spelled_if _ bytes (number_of (take 4 bytes)) (number_of (take 2 (drop 5 bytes))) (number_of (take 2 (drop 8 bytes))) z refl e

pub dates_spelled : DatesAreSpelled
dates_spelled bytes day = (literal_spelled bytes day, λ s. sym (spelled_day bytes (Date day) s))

pub day_in_range : (bytes : List ℕ) (z : ℤ) → date_literal bytes ≡ Some z → fits_kind kind.Date (Date z) ≡ true
day_in_range bytes z e = (literal_spelled bytes z e).fits
