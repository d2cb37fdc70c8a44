-- The civil calendar is that of jiff, and each day of its years has one date.
use Rattle.std.proofs.Common.{◌≡◌, ℕ, zero, suc, ◌+◌, ◌-◌, ◌<◌, ◌≤◌, inl, inr, ℤ, pos, neg_ℤ, ◌+ℤ◌, ◌-ℤ◌, ◌≤ℤ◌, unsigned_abs, Bool, true, false, cond, nat_le, leb-true, leb-false, le-leb, refl, sym, ap, ◌∙◌, arith}
use Rattle.std.proofs.lemmas.Int.{ints}
use Rattle.std.proofs.lemmas.Bool.{cases_lt, lt-leb}
use Rattle.jiff_core.specs.Calendar as jiff
use Rattle.jiff_core.proofs.CalendarLemmas as core
use Rattle.jiff_core.proofs.MarchLemmas.{day_count-early}
use Rattle.ds_value.specs.Calendar.{days_in_year, days_in_month, IsDate, days_of_years, days_of_months, days_before, day_number, greatest, year_of, day_in_year_of, month_of, day_of}

pub days_of_years-next : (y : ℕ) → 1 ≤ y → days_of_years y ≡ days_of_years (y - 1) + days_in_year y
unfolding days_of_years
days_of_years-next zero h = absurd (omega arith)
days_of_years-next (suc n) h = let back : suc n - 1 ≡ n = omega arith in rw back refl

pub days_of_months-next : (y m : ℕ) → 1 ≤ m → days_of_months y m ≡ days_of_months y (m - 1) + days_in_month y m
unfolding days_of_months
days_of_months-next y zero h = absurd (omega arith)
days_of_months-next y (suc m) h = let back : suc m - 1 ≡ m = omega arith in rw back refl

days_of_months-zero : (y : ℕ) → days_of_months y 0 ≡ 0
unfolding days_of_months
days_of_months-zero y = refl

days_of_years-zero : days_of_years 0 ≡ 0
unfolding days_of_years
days_of_years-zero = refl

-- the months of the two calendars are one
months_same : (y m : ℕ) → days_of_months y m ≡ jiff.days_of_months (pos y) m
unfolding days_of_months jiff.days_of_months
months_same y zero = refl
months_same y (suc m) = ap (λ n. n + days_in_month y (suc m)) (months_same y m)

pub first_day : jiff.day_count (pos 1) 1 1 ≡ 3_652_791
first_day = day_count-early (pos 1) 10000 1 1 refl (omega arith) (omega arith) (omega arith)

-- and so are their years
years_same : (n : ℕ) → jiff.day_count (pos (suc n)) 1 1 ≡ 3_652_791 + days_of_years n
unfolding days_of_years
years_same zero = first_day
years_same (suc n) =
    let next : jiff.day_count (pos (suc (suc n))) 1 1 ≡ jiff.day_count (pos (suc n)) 1 1 + jiff.days_in_year (pos (suc n)) = core.day_count-next_year (pos (suc n)) (pos (suc (suc n))) (omega (arith, ints)) (omega (arith, ints)) in
    omega (arith, years_same n, next)

pub days_before-jiff : (y m d : ℕ) → 1 ≤ y → 1 ≤ d → jiff.day_count (pos y) m d ≡ 3_652_791 + days_before y m d
days_before-jiff zero m d h k = absurd (omega arith)
days_before-jiff (suc n) m d h k =
    let back : suc n - 1 ≡ n = omega arith in
    rw back (omega (arith, core.day_count-day_of_year (pos (suc n)) m d k, years_same n, months_same (suc n) (m - 1)))

less_both : (a b c d : ℕ) → a + d ≡ c + b → pos a -ℤ pos b ≡ pos c -ℤ pos d
less_both a b c d h = omega (arith, ints)

-- the day number is jiff's
pub day_number-jiff : (y m d : ℕ) → 1 ≤ y → 1 ≤ d → day_number y m d ≡ jiff.days_from_civil (pos y) m d
unfolding jiff.days_from_civil
day_number-jiff y m d h k =
    less_both (days_before y m d) 719162 (jiff.day_count (pos y) m d) (jiff.day_count (pos 1970) 1 1) (omega (arith, core.day_count-epoch, days_before-jiff y m d h k))

pub date_is_civil : (y m d : ℕ) → IsDate y m d → jiff.IsCivilDate (pos y) m d
date_is_civil y m d h =
    let first = h.first_year in
    let last = h.last_year in
    ((omega (arith, ints), omega (arith, ints)), (h.first_month, h.last_month), (h.first_day, h.last_day))

pub civil_is_date : (y m d : ℕ) → 1 ≤ y → jiff.IsCivilDate (pos y) m d → IsDate y m d
civil_is_date y m d low h = record {
  first_year = low;
  last_year = let within = h.0.1 in omega (arith, ints);
  first_month = h.1.0;
  last_month = h.1.1;
  first_day = h.2.0;
  last_day = h.2.1;
}

-- more years and months have more days
years_mono : (n k : ℕ) → days_of_years n ≤ days_of_years (n + k)
years_mono n zero = let same : n + 0 ≡ n = omega arith in rw same (omega arith)
years_mono n (suc k) =
    let next : n + suc k ≡ suc (n + k) = omega arith in
    let back : suc (n + k) - 1 ≡ n + k = omega arith in
    rw next (omega (arith, years_mono n k, rw back at (days_of_years-next (suc (n + k)) (omega arith))))

pub days_of_years-le : (n later : ℕ) → n ≤ later → days_of_years n ≤ days_of_years later
days_of_years-le n later h = let same : n + (later - n) ≡ later = omega arith in rw same at (years_mono n (later - n))

months_mono : (y n k : ℕ) → days_of_months y n ≤ days_of_months y (n + k)
months_mono y n zero = let same : n + 0 ≡ n = omega arith in rw same (omega arith)
months_mono y n (suc k) =
    let next : n + suc k ≡ suc (n + k) = omega arith in
    let back : suc (n + k) - 1 ≡ n + k = omega arith in
    rw next (omega (arith, months_mono y n k, rw back at (days_of_months-next y (suc (n + k)) (omega arith))))

pub days_of_months-le : (y n later : ℕ) → n ≤ later → days_of_months y n ≤ days_of_months y later
days_of_months-le y n later h = let same : n + (later - n) ≡ later = omega arith in rw same at (months_mono y n (later - n))

months_all : (y : ℕ) → days_of_months y 12 ≡ days_in_year y
months_all y = months_same y 12 ∙ core.days_of_months_all (pos y)

-- the greatest that passes: it passes where 0 does, and the next one doesn't
greatest-le : (p : ℕ → Bool) (n : ℕ) → greatest p n ≤ n
greatest-le p zero = omega arith
greatest-le p (suc n) = elim (p (suc n)) as (λ b. cond b (suc n) (greatest p n) ≤ suc n) [ true ↦ omega arith | false ↦ let le = greatest-le p n in omega arith ]

passes_at : (p : ℕ → Bool) (n : ℕ) (b : Bool) → p (suc n) ≡ b → p (greatest p n) ≡ true → p (cond b (suc n) (greatest p n)) ≡ true
passes_at p n true e h = e
passes_at p n false e h = h

greatest_passes : (p : ℕ → Bool) (n : ℕ) → p 0 ≡ true → p (greatest p n) ≡ true
greatest_passes p zero h = h
greatest_passes p (suc n) h = passes_at p n (p (suc n)) refl (greatest_passes p n h)

last_at : (p : ℕ → Bool) (n : ℕ) (b : Bool) → p (suc n) ≡ b → (greatest p n < n → p (greatest p n + 1) ≡ false) → cond b (suc n) (greatest p n) < suc n → p (cond b (suc n) (greatest p n) + 1) ≡ false
last_at p n true e h less = absurd (omega arith)
last_at p n false e h less =
    elim (cases_lt (greatest p n) n) [
      | inl below ↦ h below
      | inr le ↦ let at : greatest p n + 1 ≡ suc n = omega (arith, greatest-le p n) in rw at e
    ]

greatest_last : (p : ℕ → Bool) (n : ℕ) → greatest p n < n → p (greatest p n + 1) ≡ false
greatest_last p zero less = absurd (omega arith)
greatest_last p (suc n) less = last_at p n (p (suc n)) refl (greatest_last p n) less

-- the one number that passes while the next one doesn't, where the test fails ever after
pub greatest_is : (p : ℕ → Bool) (n k : ℕ) → p k ≡ true → k ≤ n → ((j : ℕ) → k < j → j ≤ n → p j ≡ false) → greatest p n ≡ k
greatest_is p zero k h le after = omega arith
greatest_is p (suc n) k h le after =
    elim (cases_lt k (suc n)) [
      | inl less ↦ rw (after (suc n) less (omega arith)) (greatest_is p n k h (omega arith) (λ j low high. after j low (omega arith)))
      | inr ge ↦ let same : k ≡ suc n = omega arith in rw (rw same at h) (sym same)
    ]

-- the days of all years, and of those before 1970
all_years : days_of_years 9999 ≡ 3_652_059
all_years = omega (arith, years_same 9999, core.day_count-end)

before_1970 : days_of_years 1969 ≡ 719_162
before_1970 = omega (arith, years_same 1969, core.day_count-epoch)

-- a day of these years lies in one of them
year_holds : (n : ℕ) → n < 3_652_059 → let k = greatest (λ y. nat_le (days_of_years y) n) 9998 in (days_of_years k ≤ n) × (n < days_of_years (k + 1)) × (k ≤ 9998)
year_holds n h =
    let k = greatest (λ y. nat_le (days_of_years y) n) 9998 in
    let le = greatest-le (λ y. nat_le (days_of_years y) n) 9998 in
    let none : nat_le (days_of_years 0) n ≡ true = rw days_of_years-zero (le-leb 0 n (omega arith)) in
    let pass : days_of_years k ≤ n = leb-true _ _ (greatest_passes (λ y. nat_le (days_of_years y) n) 9998 none) in
    let stop : n < days_of_years (k + 1) = elim (cases_lt k 9998) [
      | inl less ↦ leb-false _ _ (greatest_last (λ y. nat_le (days_of_years y) n) 9998 less)
      | inr ge ↦ let last : k + 1 ≡ 9999 = omega arith in rw (last, all_years) h
    ] in
    (pass, stop, le)

-- a day of a year lies in one of its months
month_holds : (y n : ℕ) → n < days_in_year y → let k = greatest (λ m. nat_le (days_of_months y m) n) 11 in (days_of_months y k ≤ n) × (n < days_of_months y (k + 1)) × (k ≤ 11)
month_holds y n h =
    let k = greatest (λ m. nat_le (days_of_months y m) n) 11 in
    let le = greatest-le (λ m. nat_le (days_of_months y m) n) 11 in
    let none : nat_le (days_of_months y 0) n ≡ true = rw days_of_months-zero (le-leb 0 n (omega arith)) in
    let pass : days_of_months y k ≤ n = leb-true _ _ (greatest_passes (λ m. nat_le (days_of_months y m) n) 11 none) in
    let stop : n < days_of_months y (k + 1) = elim (cases_lt k 11) [
      | inl less ↦ leb-false _ _ (greatest_last (λ m. nat_le (days_of_months y m) n) 11 less)
      | inr ge ↦ let last : k + 1 ≡ 12 = omega arith in rw (last, months_all y) h
    ] in
    (pass, stop, le)

-- the place of a day after 0001-01-01
abbrev pub place : ℤ → ℕ
place z = unsigned_abs (z +ℤ pos 719162)

abbrev pub IsDayNumber : ℤ → Type 0
IsDayNumber z = (neg_ℤ (pos 719162) ≤ℤ z) × (z ≤ℤ pos 2932896)

place_below : (z : ℤ) → IsDayNumber z → (place z < 3_652_059) × (pos (place z) -ℤ pos 719162 ≡ z)
place_below z h = (omega (arith, ints), omega (arith, ints))

place_of : (n : ℕ) → place (pos n -ℤ pos 719162) ≡ n
place_of n = omega (arith, ints)

pub year_of-is : (z : ℤ) → year_of z ≡ greatest (λ y. nat_le (days_of_years y) (place z)) 9998 + 1
unfolding year_of
year_of-is z = refl

pub day_in_year_of-is : (z : ℤ) → day_in_year_of z ≡ place z - days_of_years (year_of z - 1)
unfolding day_in_year_of
day_in_year_of-is z = refl

pub month_of-is : (z : ℤ) → month_of z ≡ greatest (λ m. nat_le (days_of_months (year_of z) m) (day_in_year_of z)) 11 + 1
unfolding month_of
month_of-is z = refl

pub day_of-is : (z : ℤ) → day_of z ≡ day_in_year_of z - days_of_months (year_of z) (month_of z - 1) + 1
unfolding day_of
day_of-is z = refl

-- the date of a day number is the date that has this number
pub date_of_number : (z : ℤ) → IsDayNumber z → IsDate (year_of z) (month_of z) (day_of z) × (day_number (year_of z) (month_of z) (day_of z) ≡ z)
date_of_number z h =
    let within = place_below z h in
    let k = greatest (λ y. nat_le (days_of_years y) (place z)) 9998 in
    let year : year_of z - 1 ≡ k = omega (arith, year_of-is z) in
    let year' : year_of z ≡ k + 1 = year_of-is z in
    let holds = year_holds (place z) within.0 in
    let low : days_of_years (year_of z - 1) ≤ place z = rw year holds.0 in
    let high : place z < days_of_years (year_of z) = rw year' holds.1 in
    let next = days_of_years-next (year_of z) (omega arith) in
    let rest : day_in_year_of z < days_in_year (year_of z) = omega (arith, day_in_year_of-is z) in
    let m = greatest (λ m. nat_le (days_of_months (year_of z) m) (day_in_year_of z)) 11 in
    let month : month_of z - 1 ≡ m = omega (arith, month_of-is z) in
    let month' : month_of z ≡ m + 1 = month_of-is z in
    let holds' = month_holds (year_of z) (day_in_year_of z) rest in
    let low' : days_of_months (year_of z) (month_of z - 1) ≤ day_in_year_of z = rw month holds'.0 in
    let high' : day_in_year_of z < days_of_months (year_of z) (month_of z) = rw month' holds'.1 in
    let next' = days_of_months-next (year_of z) (month_of z) (omega arith) in
    let day = day_of-is z in
    let yearly = day_in_year_of-is z in
    let few = holds.2 in
    let few' = holds'.2 in
    let before : days_before (year_of z) (month_of z) (day_of z) ≡ place z = omega arith in (
      record {
        first_year = omega arith;
        last_year = omega arith;
        first_month = omega arith;
        last_month = omega arith;
        first_day = omega arith;
        last_day = omega arith;
      },
      ap (λ n. pos n -ℤ pos 719162) before ∙ within.1,
    )

-- a date's number gives the date back
pub number_of_date : (y m d : ℕ) → IsDate y m d → (year_of (day_number y m d) ≡ y) × (month_of (day_number y m d) ≡ m) × (day_of (day_number y m d) ≡ d)
number_of_date y m d h =
    let z = day_number y m d in
    let at : place z ≡ days_before y m d = place_of (days_before y m d) in
    let low = h.first_year in
    let last = h.last_year in
    let low_month = h.first_month in
    let last_month = h.last_month in
    let low_day = h.first_day in
    let last_day = h.last_day in
    let in_month = days_of_months-next y m low_month in
    let in_year = days_of_months-le y m 12 last_month in
    let all = months_all y in
    let next = days_of_years-next y low in
    let begun : days_of_years (y - 1) ≤ place z = omega arith in
    let ended : place z < days_of_years y = omega arith in
    let k : greatest (λ y. nat_le (days_of_years y) (place z)) 9998 ≡ y - 1 = greatest_is (λ y. nat_le (days_of_years y) (place z)) 9998 (y - 1) (le-leb _ _ begun) (omega arith) (λ j above le. lt-leb _ _ (let more = days_of_years-le y j (omega arith) in omega arith)) in
    let year : year_of z ≡ y = year_of-is z ∙ (ap (λ n. n + 1) k ∙ omega arith) in
    let rest : day_in_year_of z ≡ days_of_months y (m - 1) + (d - 1) = day_in_year_of-is z ∙ (ap (λ n. place z - days_of_years (n - 1)) year ∙ omega arith) in
    let k' : greatest (λ n. nat_le (days_of_months y n) (day_in_year_of z)) 11 ≡ m - 1 = greatest_is (λ n. nat_le (days_of_months y n) (day_in_year_of z)) 11 (m - 1) (le-leb _ _ (omega arith)) (omega arith) (λ j above le. lt-leb _ _ (let more = days_of_months-le y m j (omega arith) in omega arith)) in
    let month : month_of z ≡ m = month_of-is z ∙ (ap (λ n. greatest (λ k. nat_le (days_of_months n k) (day_in_year_of z)) 11 + 1) year ∙ (ap (λ n. n + 1) k' ∙ omega arith)) in
    let day : day_of z ≡ d = day_of-is z ∙ (ap (λ n. day_in_year_of z - days_of_months n (month_of z - 1) + 1) year ∙ (ap (λ n. day_in_year_of z - days_of_months y (n - 1) + 1) month ∙ omega arith)) in
    (year, month, day)

within_range : (n : ℕ) → n < 3_652_059 → IsDayNumber (pos n -ℤ pos 719162)
within_range n h = (omega (arith, ints), omega (arith, ints))

-- the number of each date lies in the range
pub date_in_range : (y m d : ℕ) → IsDate y m d → IsDayNumber (day_number y m d)
date_in_range y m d h =
    let low = h.first_year in
    let last = h.last_year in
    let low_month = h.first_month in
    let last_month = h.last_month in
    let low_day = h.first_day in
    let last_day = h.last_day in
    let in_month = days_of_months-next y m low_month in
    let in_year = days_of_months-le y m 12 last_month in
    let all = months_all y in
    let next = days_of_years-next y low in
    let most = days_of_years-le y 9999 last in
    let years = all_years in
    within_range (days_before y m d) (omega arith)
