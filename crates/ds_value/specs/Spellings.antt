-- The texts that spell the values of a kind, and the one that is written.
use Rattle.std.specs.Prelude.{◌≡◌, ◌≢◌, ◌≤◌, ℕ, zero, suc, ◌+◌, ◌-◌, ◌*◌, ◌/◌, ◌%◌, ℤ, pos, negsuc, neg_ℤ, unsigned_abs, true, ◌==◌, if◌then◌else◌, List, [], ◌∷◌, ◌++◌, length, take, drop, replicate, codes}
use Rattle.std.specs.List.{list_all}
use Rattle.std.specs.Str.{all_ascii_digits}
use Rattle.std.specs.Fmt.{decimal, signed_decimal}
use Rattle.ds_value.specs.declared.kind.Kind.{Kind}
use Rattle.ds_value.specs.declared.kind.Kind.TheVariants as kind
use Rattle.ds_value.specs.declared.value.Value.{Value}
use Rattle.ds_value.specs.declared.value.Value.TheVariants.{Int, UInt, Dec, Text, Date}
use Rattle.ds_value.specs.Kinds.{fits_kind}
use Rattle.ds_value.specs.Calendar.{IsDate, day_number, year_of, month_of, day_of}

-- a sign that may be missing
pub data Sign : Type 0 where
  Missing : Sign
  Plus : Sign
  Minus : Sign

abbrev pub sign_text : Sign → List ℕ
sign_text Missing = []
sign_text Plus = codes "+"
sign_text Minus = codes "-"

abbrev pub signed : Sign → ℕ → ℤ
signed Missing n = pos n
signed Plus n = pos n
signed Minus n = neg_ℤ (pos n)

-- one or more decimal digits
pub record IsNumeral (digits : List ℕ) : Type 0 where
  pub some : 1 ≤ length digits
  pub each : all_ascii_digits digits ≡ true

-- the number that digits write, where they follow those of n
abbrev pub number_behind : ℕ → List ℕ → ℕ
number_behind n [] = n
number_behind n (digit ∷ digits) = number_behind (n * 10 + (digit - 48)) digits

-- the number that digits write
abbrev pub number_of : List ℕ → ℕ
number_of digits = number_behind 0 digits

-- a signed whole number: an optional sign, and one or more digits
pub record SpellsInt (bytes : List ℕ) (z : ℤ) : Type 0 where
  pub sign : Sign
  pub digits : List ℕ
  pub text : bytes ≡ sign_text sign ++ digits
  pub numeral : IsNumeral digits
  pub value : z ≡ signed sign (number_of digits)

-- an unsigned whole number: an optional plus, and one or more digits
pub record SpellsUInt (bytes : List ℕ) (n : ℕ) : Type 0 where
  pub sign : Sign
  pub digits : List ℕ
  pub no_minus : sign ≢ Minus
  pub text : bytes ≡ sign_text sign ++ digits
  pub numeral : IsNumeral digits
  pub value : n ≡ number_of digits

-- a point and the digits behind it; nothing where there are none
abbrev pub point_text : List ℕ → List ℕ
point_text [] = []
point_text (digit ∷ digits) = 46 ∷ digit ∷ digits

-- the first s digits behind a point, zeros where there are fewer
abbrev pub scaled : ℕ → List ℕ → List ℕ
scaled s fraction = take s fraction ++ replicate (s - length fraction) 48

-- units of 10 ^ -s: an optional sign, one or more digits, and optionally a point and one or more digits, zeros behind the s-th
pub record SpellsDec (s : ℕ) (bytes : List ℕ) (z : ℤ) : Type 0 where
  pub sign : Sign
  pub whole : List ℕ
  pub fraction : List ℕ
  pub text : bytes ≡ sign_text sign ++ (whole ++ point_text fraction)
  pub numeral : IsNumeral whole
  pub digits : all_ascii_digits fraction ≡ true
  pub zeros : list_all (λ digit. digit == 48) (drop s fraction) ≡ true
  pub value : z ≡ signed sign (number_of (whole ++ scaled s fraction))

-- filled with spaces to n bytes
abbrev pub filled : ℕ → List ℕ → List ℕ
filled n bytes = bytes ++ replicate (n - length bytes) 32

-- the last k digits of a number
abbrev pub last_digits : ℕ → ℕ → List ℕ
last_digits zero n = []
last_digits (suc k) n = last_digits k (n / 10) ++ (48 + n % 10) ∷ []

-- YYYY-MM-DD
abbrev pub date_text : ℕ → ℕ → ℕ → List ℕ
date_text year month day = last_digits 4 year ++ (45 ∷ last_digits 2 month ++ (45 ∷ last_digits 2 day))

-- a date that the calendar has
pub record SpellsDate (bytes : List ℕ) (number : ℤ) : Type 0 where
  pub year : ℕ
  pub month : ℕ
  pub day : ℕ
  pub date : IsDate year month day
  pub text : bytes ≡ date_text year month day
  pub value : number ≡ day_number year month day

-- the text has the form in which values of the kind are spelled, and stands for the value
abbrev pub HasForm : Kind → List ℕ → Value → Type 0
HasForm (kind.Int bits) bytes (Int z) = SpellsInt bytes z
HasForm (kind.UInt bits) bytes (UInt n) = SpellsUInt bytes n
HasForm (kind.Dec p s) bytes (Dec z) = SpellsDec s bytes z
HasForm (kind.Text max fixed) bytes (Text b) = b ≡ (if fixed then filled max bytes else bytes)
HasForm kind.Date bytes (Date day) = SpellsDate bytes day
HasForm k bytes v = ⊥

-- the text spells the value, which lies in the kind's range
pub record Spells (k : Kind) (bytes : List ℕ) (v : Value) : Type 0 where
  pub form : HasForm k bytes v
  pub fits : fits_kind k v ≡ true

-- the digits of a number, at least s + 1 of them
abbrev pub scaled_digits : ℕ → ℕ → List ℕ
scaled_digits s n = replicate (s + 1 - length (decimal n)) 48 ++ decimal n

-- digits with a point before the last s of them
abbrev pub pointed : ℕ → List ℕ → List ℕ
pointed s digits = take (length digits - s) digits ++ point_text (drop (length digits - s) digits)

abbrev pub minus_text : ℤ → List ℕ
minus_text (pos n) = []
minus_text (negsuc n) = codes "-"

-- the one text that is written
abbrev pub written : Kind → Value → List ℕ
written (kind.Int bits) (Int z) = signed_decimal z
written (kind.UInt bits) (UInt n) = decimal n
written (kind.Dec p s) (Dec z) = minus_text z ++ pointed s (scaled_digits s (unsigned_abs z))
written (kind.Text max fixed) (Text b) = b
written kind.Date (Date day) = date_text (year_of day) (month_of day) (day_of day)
written k v = []
