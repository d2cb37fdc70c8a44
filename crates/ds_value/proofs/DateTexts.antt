-- The texts of dates.
use Rattle.std.proofs.Common.{◌≡◌, ◌≢◌, ◌<◌, ◌≤◌, ℕ, ◌-◌, ◌^◌, ℤ, pos, neg_ℤ, ◌<ℤ◌, unsigned_abs, FitsSigned, to_z, of_z, w32, w64, true, List, ◌∷◌, ◌++◌, length, take, drop, get_or, refl, sym, ap, subst, ◌∙◌, arith, length-take, length-drop, drop-cons}
use Rattle.std.specs.Str.{all_ascii_digits}
use Rattle.std.proofs.Math.Nat.{pow-le-pow_right}
use Rattle.std.proofs.lemmas.List.{take-append-drop, take_all, drop-drop}
use Rattle.std.proofs.lemmas.Int.{ints, by_lt_z, to_z-of_z}
use Rattle.jiff_core.specs.declared.civil.date.Date.{Date}
use Rattle.jiff_core.specs.Date.{epoch_day}
use Rattle.jiff_core.specs.Calendar as jiff
use Rattle.jiff_core.proofs.CalendarLemmas as core
use Rattle.jiff_core.proofs.DateLemmas as dates
use Rattle.ds_value.specs.Kinds.{is_between}
use Rattle.ds_value.specs.Calendar.{IsDate, days_in_month, day_number, year_of, month_of, day_of}
use Rattle.ds_value.specs.Spellings.{number_of, last_digits, IsNumeral, date_text, SpellsDate}
use Rattle.ds_value.proofs.LastDigits.{length-last_digits, last_digits_are_digits, number_of-last_digits, last_digits-number_of, number_of-lt}
use Rattle.ds_value.proofs.Calendars.{IsDayNumber, first_day, day_number-jiff, civil_is_date, date_in_range, number_of_date}

pub small_number : (digits : List ℕ) → length digits ≤ 4 → IsNumeral digits → number_of digits < 10000
small_number digits few h =
    let most : 10 ^ length digits ≤ 10 ^ 4 = pow-le-pow_right (omega arith) few in
    let less = number_of-lt digits h.each in
    omega arith

pub is_small : (digits : List ℕ) → length digits ≤ 4 → ¬ (IsNumeral digits × (number_of digits < 10 ^ 38)) → ¬ (IsNumeral digits)
is_small digits few none h = none (h, let less = small_number digits few h in omega arith)

dashed : (bytes a b c : List ℕ) → bytes ≡ a ++ (45 ∷ b ++ (45 ∷ c)) → length a ≡ 4 → length b ≡ 2 → length c ≡ 2 → all_ascii_digits a ≡ true → all_ascii_digits b ≡ true → all_ascii_digits c ≡ true → bytes ≡ date_text (number_of a) (number_of b) (number_of c)
dashed bytes a b c e la lb lc da db dc =
    let ea = rw la at (last_digits-number_of a da) in
    let eb = rw lb at (last_digits-number_of b db) in
    let ec = rw lc at (last_digits-number_of c dc) in
    e ∙ sym (ap (λ (f : List ℕ). f ++ (45 ∷ last_digits 2 (number_of b) ++ (45 ∷ last_digits 2 (number_of c)))) ea ∙ (ap (λ (f : List ℕ). a ++ (45 ∷ f ++ (45 ∷ last_digits 2 (number_of c)))) eb ∙ ap (λ (f : List ℕ). a ++ (45 ∷ b ++ (45 ∷ f))) ec))

-- ten bytes with dashes at their places
shape : (bytes : List ℕ) → length bytes ≡ 10 → get_or bytes 4 0 ≡ 45 → get_or bytes 7 0 ≡ 45 → bytes ≡ take 4 bytes ++ (45 ∷ take 2 (drop 5 bytes) ++ (45 ∷ drop 8 bytes))
shape bytes ten first second =
    let at_four : drop 4 bytes ≡ 45 ∷ drop 5 bytes = drop-cons bytes 4 0 (omega arith) ∙ rw first refl in
    let at_seven : drop 7 bytes ≡ 45 ∷ drop 8 bytes = drop-cons bytes 7 0 (omega arith) ∙ rw second refl in
    let middle : drop 5 bytes ≡ take 2 (drop 5 bytes) ++ drop 7 bytes = sym (take-append-drop 2 (drop 5 bytes)) ∙ ap (λ (f : List ℕ). take 2 (drop 5 bytes) ++ f) (drop-drop 2 5 bytes) in
    sym (take-append-drop 4 bytes) ∙ ap (λ (f : List ℕ). take 4 bytes ++ f) (at_four ∙ ap (λ (f : List ℕ). 45 ∷ f) (middle ∙ ap (λ (f : List ℕ). take 2 (drop 5 bytes) ++ f) at_seven))

pub text_parts : (bytes : List ℕ) → length bytes ≡ 10 → get_or bytes 4 0 ≡ 45 → get_or bytes 7 0 ≡ 45 → IsNumeral (take 4 bytes) → IsNumeral (take 2 (drop 5 bytes)) → IsNumeral (take (length bytes - 8) (drop 8 bytes)) → bytes ≡ date_text (number_of (take 4 bytes)) (number_of (take 2 (drop 5 bytes))) (number_of (take (length bytes - 8) (drop 8 bytes)))
text_parts bytes ten first second a b c =
    let whole : take (length bytes - 8) (drop 8 bytes) ≡ drop 8 bytes = take_all (length bytes - 8) (drop 8 bytes) (omega (arith, length-drop 8 bytes)) in
    let c' = rw whole at c in
    rw whole (dashed bytes (take 4 bytes) (take 2 (drop 5 bytes)) (drop 8 bytes) (shape bytes ten first second) (omega (arith, length-take 4 bytes)) (omega (arith, length-take 2 (drop 5 bytes), length-drop 5 bytes)) (omega (arith, length-drop 8 bytes)) a.each b.each c'.each)

-- a text of this form has ten bytes, dashes at their places, and digits
pub of_form : (bytes : List ℕ) (year month day : ℕ) → bytes ≡ date_text year month day → (length bytes ≡ 10) × (get_or bytes 4 0 ≡ 45) × (get_or bytes 7 0 ≡ 45) × (take 4 bytes ≡ last_digits 4 year) × (take 2 (drop 5 bytes) ≡ last_digits 2 month) × (drop 8 bytes ≡ last_digits 2 day)
of_form bytes year month day e = rw e (refl, refl, refl, refl, refl, refl)

last_numeral : (k n : ℕ) → 1 ≤ k → IsNumeral (last_digits k n)
last_numeral k n h = record { some = rw (length-last_digits k n) h; each = last_digits_are_digits k n }

-- the parts of a date are those of its text
pub text_once : (y m d y' m' d' : ℕ) → y < 10000 → m < 100 → d < 100 → y' < 10000 → m' < 100 → d' < 100 → date_text y m d ≡ date_text y' m' d' → (y ≡ y') × (m ≡ m') × (d ≡ d')
text_once y m d y' m' d' hy hm hd hy' hm' hd' e =
    let years : last_digits 4 y ≡ last_digits 4 y' = ap (take 4) e in
    let months : last_digits 2 m ≡ last_digits 2 m' = ap (λ bs. take 2 (drop 5 bs)) e in
    let days : last_digits 2 d ≡ last_digits 2 d' = ap (drop 8) e in (
      sym (number_of-last_digits 4 y hy) ∙ (ap number_of years ∙ number_of-last_digits 4 y' hy'),
      sym (number_of-last_digits 2 m hm) ∙ (ap number_of months ∙ number_of-last_digits 2 m' hm'),
      sym (number_of-last_digits 2 d hd) ∙ (ap number_of days ∙ number_of-last_digits 2 d' hd'),
    )

month_short : (year month : ℕ) → days_in_month year month < 100
month_short year month = grind arith

-- the parts of a date that the calendar has are short
pub date_short : (y m d : ℕ) → IsDate y m d → (y < 10000) × (m < 100) × (d < 100)
date_short y m d h =
    let last = h.last_year in
    let last_month = h.last_month in
    let last_day = h.last_day in
    let short = month_short y m in
    (omega arith, omega arith, omega arith)

-- a date of jiff, where its year is known
pub civil_found : (y m d : ℕ) (date : Date) → 1 ≤ y → date.year ≡ pos y → pos date.month ≡ pos m → pos date.day ≡ pos d → IsDate y m d × (epoch_day date ≡ day_number y m d)
civil_found y m d date low ey em ed =
    let month : date.month ≡ m = cc in
    let day : date.day ≡ d = cc in
    let civil : jiff.IsCivilDate (pos y) m d = rw (ey, month, day) at (dates.civil date) in
    let found = civil_is_date y m d low civil in
    (found, rw (ey, month, day) (sym (day_number-jiff y m d low found.first_day)))

-- of the years before 1 no day is a day number here
early : (date : Date) (z : ℤ) → epoch_day date ≡ z → IsDayNumber z → date.year <ℤ pos 1 → ⊥
early date z e h less =
    let before = core.day_count-lt_year date.year date.month date.day (pos 1) 1 1 (dates.civil date) (omega arith) less in
    let one = first_day in
    let low = h.0 in
    let count = rw e at (core.days_from_civil-day_count date.year date.month date.day) in
    omega (arith, ints)

later : (date : Date) (z : ℤ) (n : ℕ) → epoch_day date ≡ z → 1 ≤ n → date.year ≡ pos n → (date.year ≡ pos (year_of z)) × (date.month ≡ month_of z) × (date.day ≡ day_of z)
later date z n e low ey =
    let found = civil_found n date.month date.day date low ey refl refl in
    let number : day_number n date.month date.day ≡ z = sym found.1 ∙ e in
    let parts = number_of_date n date.month date.day found.0 in
    (ey ∙ ap pos (sym parts.0 ∙ ap year_of number), sym parts.1 ∙ ap month_of number, sym parts.2 ∙ ap day_of number)

pub parts_of_day : (date : Date) (z : ℤ) → epoch_day date ≡ z → IsDayNumber z → (date.year ≡ pos (year_of z)) × (date.month ≡ month_of z) × (date.day ≡ day_of z)
parts_of_day date z e h =
    by_lt_z date.year (pos 1) (λ less. absurd (early date z e h less)) (λ ge. later date z (unsigned_abs date.year) e (omega (arith, ints)) (omega (arith, ints)))

pub is_day_number : (z : ℤ) → is_between (neg_ℤ (pos 719162)) (pos 2932896) z ≡ true → IsDayNumber z
is_day_number z h = grind (arith, ints)

two_digits : (digits : List ℕ) → length digits ≡ 2 → IsNumeral digits → number_of digits < 100
two_digits digits two h = rw two at (number_of-lt digits h.each)

pub month_bound : (bytes : List ℕ) → length bytes ≡ 10 → IsNumeral (take 2 (drop 5 bytes)) → number_of (take 2 (drop 5 bytes)) < 100
month_bound bytes ten h = two_digits _ (omega (arith, length-take 2 (drop 5 bytes), length-drop 5 bytes)) h

pub day_bound : (bytes : List ℕ) → length bytes ≡ 10 → IsNumeral (take (length bytes - 8) (drop 8 bytes)) → number_of (take (length bytes - 8) (drop 8 bytes)) < 100
day_bound bytes ten h = two_digits _ (omega (arith, length-take (length bytes - 8) (drop 8 bytes), length-drop 8 bytes)) h

-- what the parts are where the text has the form of a date
pub parts_read : (bytes : List ℕ) (y m d : ℕ) → length bytes ≡ 10 → get_or bytes 4 0 ≡ 45 → get_or bytes 7 0 ≡ 45 → IsNumeral (take 4 bytes) × (y ≡ number_of (take 4 bytes)) → IsNumeral (take 2 (drop 5 bytes)) × (m ≡ number_of (take 2 (drop 5 bytes))) → IsNumeral (take (length bytes - 8) (drop 8 bytes)) × (d ≡ number_of (take (length bytes - 8) (drop 8 bytes))) → (y < 10000) × (m < 100) × (d < 100) × (bytes ≡ date_text y m d)
parts_read bytes y m d ten first second year month day =
    rw (year.1, month.1, day.1)
    (small_number (take 4 bytes) (omega (arith, length-take 4 bytes)) year.0, month_bound bytes ten month.0, day_bound bytes ten day.0, text_parts bytes ten first second year.0 month.0 day.0)

-- the number that a text of this form spells
pub number_found : (bytes : List ℕ) (y m d : ℕ) (z : ℤ) → bytes ≡ date_text y m d → IsDate y m d → z ≡ day_number y m d → SpellsDate bytes z
number_found bytes y m d z text date value = record { year = y; month = m; day = d; date = date; text = text; value = value }

pub no_form : (bytes : List ℕ) → ((y m d : ℕ) → y < 10000 → m < 100 → d < 100 → bytes ≢ date_text y m d) → (z : ℤ) → ¬ (SpellsDate bytes z)
no_form bytes none z h =
    let short = date_short h.year h.month h.day h.date in
    none h.year h.month h.day short.0 short.1 short.2 h.text

pub no_date : (bytes : List ℕ) (y m d : ℕ) → y < 10000 → m < 100 → d < 100 → bytes ≡ date_text y m d → ¬ (IsDate y m d) → (z : ℤ) → ¬ (SpellsDate bytes z)
no_date bytes y m d hy hm hd text none z h =
    let short = date_short h.year h.month h.day h.date in
    let same = text_once y m d h.year h.month h.day hy hm hd short.0 short.1 short.2 (sym text ∙ h.text) in
    none (rw (same.0, same.1, same.2) h.date)

-- the same of a date that jiff made from the number
pub parts_of_number : (date plain : Date) (z raw : ℤ) → date ≡ plain → epoch_day plain ≡ to_z w64 (of_z w64 raw) → raw ≡ to_z w32 (of_z w32 z) → FitsSigned w32 z → IsDayNumber z → (date.year ≡ pos (year_of z)) × (date.month ≡ month_of z) × (date.day ≡ day_of z)
parts_of_number date plain z raw same value wide fits h =
    let narrow : raw ≡ z = wide ∙ to_z-of_z w32 z fits in
    let fits_wide : FitsSigned w64 raw = rw narrow (omega (arith, ints)) in
    parts_of_day date z (ap epoch_day same ∙ (value ∙ (to_z-of_z w64 raw fits_wide ∙ narrow))) h

between : (z : ℤ) → IsDayNumber z → is_between (neg_ℤ (pos 719162)) (pos 2932896) z ≡ true
between z h = let low = h.0 in let high = h.1 in grind (arith, ints)

pub spelled_in_range : (bytes : List ℕ) (z : ℤ) → SpellsDate bytes z → is_between (neg_ℤ (pos 719162)) (pos 2932896) z ≡ true
spelled_in_range bytes z h = between z (subst IsDayNumber (sym h.value) (date_in_range h.year h.month h.day h.date))
