-- Kinds of columns, and the values that each has.
use Rattle.std.specs.Prelude.{◌≡◌, ◌⊎◌, ◌≤◌, ℕ, ℤ, pos, neg_ℤ, unsigned_abs, ◌-◌, ◌^◌, Bool, false, ◌&&◌, ◌==◌, nat_le, nat_lt, int_le, if◌then◌else◌, length}
use Rattle.ds_value.specs.declared.kind.Kind.{Kind}
use Rattle.ds_value.specs.declared.kind.Kind.TheVariants as kind
use Rattle.ds_value.specs.declared.value.Value.{Value}
use Rattle.ds_value.specs.declared.value.Value.TheVariants.{Int, UInt, Dec, Text, Date}

-- the numbers of bits that whole kinds have
abbrev pub IsBits : ℕ → Type 0
IsBits bits = (bits ≡ 8) ⊎ ((bits ≡ 16) ⊎ ((bits ≡ 32) ⊎ (bits ≡ 64)))

-- a kind that a schema may name
abbrev pub IsKind : Kind → Type 0
IsKind (kind.Int bits) = IsBits bits
IsKind (kind.UInt bits) = IsBits bits
IsKind (kind.Dec p s) = (1 ≤ p) × ((p ≤ 38) × (s ≤ p))
IsKind (kind.Text max fixed) = (1 ≤ max) × (max ≤ 65536)
IsKind kind.Date = Unit {0}

-- from low to high, both included
abbrev pub is_between : ℤ → ℤ → ℤ → Bool
is_between low high z = int_le low z && int_le z high

abbrev pub least_int : ℕ → ℤ
least_int bits = neg_ℤ (pos (2 ^ (bits - 1)))

abbrev pub greatest_int : ℕ → ℤ
greatest_int bits = pos (2 ^ (bits - 1) - 1)

-- the value isn't null and lies in the kind's range; a date is from 0001-01-01 to 9999-12-31
abbrev pub fits_kind : Kind → Value → Bool
fits_kind (kind.Int bits) (Int z) = is_between (least_int bits) (greatest_int bits) z
fits_kind (kind.UInt bits) (UInt n) = nat_lt n (2 ^ bits)
fits_kind (kind.Dec p s) (Dec z) = nat_lt (unsigned_abs z) (10 ^ p)
fits_kind (kind.Text max fixed) (Text b) = if fixed then length b == max else nat_le (length b) max
fits_kind kind.Date (Date d) = is_between (neg_ℤ (pos 719162)) (pos 2932896) d
fits_kind k v = false
