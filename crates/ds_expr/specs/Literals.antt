-- What numbers and dates that stand in an expression are worth.
use Rattle.std.specs.Prelude.{◌≡◌, ◌↔◌, ℕ, ◌+◌, ◌-◌, ◌^◌, ℤ, pos, List, length, take, drop, position, Option, Some, None, Bool, not, ◌&&◌, ◌==◌, nat_lt, nat_le, if◌then◌else◌}
use Rattle.std.specs.List.{filter}
use Rattle.std.specs.Str.{bytes_eq}
use Rattle.ds_value.specs.declared.value.Value.{Value}
use Rattle.ds_value.specs.declared.value.Value.TheVariants as value
use Rattle.ds_value.specs.Calendar.{days_in_month, day_number}
use Rattle.ds_value.specs.declared.kind.Kind.TheVariants as kind
use Rattle.ds_value.specs.Spellings.{Spells, number_of, date_text}
use Rattle.ds_expr.specs.declared.literal.Number.{Number}

-- how many digits stand behind a point
abbrev pub digits_behind : Option ℕ → ℕ → ℕ
digits_behind None len = 0
digits_behind (Some i) len = len - (i + 1)

abbrev pub scale_of : List ℕ → ℕ
scale_of digits = digits_behind (position (λ b. b == 46) digits) (length digits)

abbrev pub units_of : List ℕ → ℕ
units_of digits = number_of (filter (λ b. not (b == 46)) digits)

-- the same, where it is below 10 ^ 38
abbrev pub units_below : List ℕ → Option ℕ
units_below digits = if nat_lt (units_of digits) (10 ^ 38) then Some (units_of digits) else None

-- below 10 ^ 38 units, and at most 38 digits behind the point
unfoldable pub number_literal : List ℕ → Option Number
number_literal digits =
    if nat_le (scale_of digits) 38 && nat_lt (units_of digits) (10 ^ 38) then Some (record { units = pos (units_of digits); scale = scale_of digits }) else None

-- the calendar has this date
abbrev pub is_date : ℕ → ℕ → ℕ → Bool
is_date year month day =
    nat_le 1 year && nat_le year 9999 && nat_le 1 month && nat_le month 12 && nat_le 1 day && nat_le day (days_in_month year month)

abbrev pub date_if : List ℕ → ℕ → ℕ → ℕ → Option ℤ
date_if bytes year month day = if is_date year month day && bytes_eq bytes (date_text year month day) then Some (day_number year month day) else None

-- the day of a date that is written YYYY-MM-DD
unfoldable pub date_literal : List ℕ → Option ℤ
date_literal bytes = date_if bytes (number_of (take 4 bytes)) (number_of (take 2 (drop 5 bytes))) (number_of (take 2 (drop 8 bytes)))

-- a text has a day exactly where it spells it as a value of a date
abbrev pub DatesAreSpelled : Type 0
DatesAreSpelled = (bytes : List ℕ) (day : ℤ) → (date_literal bytes ≡ Some day) ↔ Spells kind.Date bytes (value.Date day)

-- the day that a value is
abbrev pub day_in : Value → Option ℤ
day_in (value.Date day) = Some day
day_in other = None
