-- What holds of spellings, dates, canonical bytes and the order of values.
use Rattle.std.specs.Prelude.{◌≡◌, ℕ, ℤ, pos, neg_ℤ, ◌≤ℤ◌, true, List, ◌++◌}
use Rattle.std.specs.declared.cmp.Ordering.TheVariants.{Equal}
use Rattle.ds_value.specs.declared.kind.Kind.{Kind}
use Rattle.ds_value.specs.declared.value.Value.{Value}
use Rattle.ds_value.specs.Calendar.{IsDate, day_number, year_of, month_of, day_of}
use Rattle.ds_value.specs.Canonical.{canonical_bytes, IsHeld, IsShort}
use Rattle.ds_value.specs.Kinds.{IsKind, fits_kind}
use Rattle.ds_value.specs.Spellings.{Spells, written}
use Rattle.ds_value.specs.Values.{value_cmp}

-- a text spells one value of a kind at most
abbrev pub TextSpellsOneValue : Type 0
TextSpellsOneValue = (k : Kind) (bytes : List ℕ) (v w : Value) → Spells k bytes v → Spells k bytes w → v ≡ w

-- the written text of a value of the kind spells it
abbrev pub WrittenTextSpells : Type 0
WrittenTextSpells = (k : Kind) (v : Value) → IsKind k → fits_kind k v ≡ true → Spells k (written k v) v

-- each day from 0001-01-01 to 9999-12-31 has a date
abbrev pub DaysHaveDates : Type 0
DaysHaveDates = (n : ℤ) → neg_ℤ (pos 719162) ≤ℤ n → n ≤ℤ pos 2932896 → IsDate (year_of n) (month_of n) (day_of n) × (day_number (year_of n) (month_of n) (day_of n) ≡ n)

-- and the number of each date leads back to it
abbrev pub DatesHaveDays : Type 0
DatesHaveDays = (year month day : ℕ) → IsDate year month day → let n = day_number year month day in (year_of n ≡ year) × (month_of n ≡ month) × (day_of n ≡ day)

-- canonical bytes name one value, and those of one value begin those of no other
abbrev pub CanonicalBytesDiffer : Type 0
CanonicalBytesDiffer = (v w : Value) (more further : List ℕ) → IsHeld v → IsHeld w → IsShort v → IsShort w → canonical_bytes v ++ more ≡ canonical_bytes w ++ further → (v ≡ w) × (more ≡ further)

-- the numbers of a value of a kind lie in the ranges of their variants, and its text is short
abbrev pub FittingValuesAreHeld : Type 0
FittingValuesAreHeld = (k : Kind) (v : Value) → IsKind k → fits_kind k v ≡ true → IsHeld v × IsShort v

-- values that are equal in the order are equal
abbrev pub EqualValuesAreOne : Type 0
EqualValuesAreOne = (v w : Value) → value_cmp v w ≡ Equal → v ≡ w
