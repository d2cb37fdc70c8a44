-- The civil calendar of the years 1 to 9999, and the number of a day, counted from 1970-01-01.
use Rattle.std.specs.Prelude.{ℕ, zero, suc, ℤ, pos, ◌+◌, ◌-◌, ◌%◌, ◌≤◌, ◌-ℤ◌, ◌+ℤ◌, unsigned_abs, Bool, not, ◌&&◌, ◌||◌, ◌==◌, nat_le, if◌then◌else◌}

-- every fourth year, but of the centuries only every fourth
abbrev pub is_leap : ℕ → Bool
is_leap year = (year % 4 == 0) && (not (year % 100 == 0) || (year % 400 == 0))

abbrev pub days_in_year : ℕ → ℕ
days_in_year year = if is_leap year then 366 else 365

-- thirty days have September, April, June and November
abbrev pub days_in_month : ℕ → ℕ → ℕ
days_in_month year month =
    if month == 2 then (if is_leap year then 29 else 28)
    else (if (month == 4) || (month == 6) || (month == 9) || (month == 11) then 30 else 31)

-- the calendar has this date
pub record IsDate (year month day : ℕ) : Type 0 where
  pub first_year : 1 ≤ year
  pub last_year : year ≤ 9999
  pub first_month : 1 ≤ month
  pub last_month : month ≤ 12
  pub first_day : 1 ≤ day
  pub last_day : day ≤ days_in_month year month

-- the days of the years from 1 to n
unfoldable pub days_of_years : ℕ → ℕ
days_of_years zero = 0
days_of_years (suc n) = days_of_years n + days_in_year (suc n)

-- the days of the first n months of a year
unfoldable pub days_of_months : ℕ → ℕ → ℕ
days_of_months year zero = 0
days_of_months year (suc n) = days_of_months year n + days_in_month year (suc n)

-- how many days lie between 0001-01-01 and the date
abbrev pub days_before : ℕ → ℕ → ℕ → ℕ
days_before year month day = days_of_years (year - 1) + (days_of_months year (month - 1) + (day - 1))

-- 0 for 1970-01-01, and negative before it; 719162 is the days of the years from 1 to 1969
abbrev pub day_number : ℕ → ℕ → ℕ → ℤ
day_number year month day = pos (days_before year month day) -ℤ pos 719162

-- the greatest number up to n that passes, and 0 where none does
abbrev pub greatest : (ℕ → Bool) → ℕ → ℕ
greatest p zero = 0
greatest p (suc n) = if p (suc n) then suc n else greatest p n

-- the year, the month and the day in the month of a day number
unfoldable pub year_of : ℤ → ℕ
year_of number = greatest (λ n. nat_le (days_of_years n) (unsigned_abs (number +ℤ pos 719162))) 9998 + 1

unfoldable pub day_in_year_of : ℤ → ℕ
day_in_year_of number = unsigned_abs (number +ℤ pos 719162) - days_of_years (year_of number - 1)

unfoldable pub month_of : ℤ → ℕ
month_of number = greatest (λ n. nat_le (days_of_months (year_of number) n) (day_in_year_of number)) 11 + 1

unfoldable pub day_of : ℤ → ℕ
day_of number = day_in_year_of number - days_of_months (year_of number) (month_of number - 1) + 1
