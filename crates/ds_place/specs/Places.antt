-- The partition in which a place puts a row: its key's hash, or the remainder of a whole number, by the number of partitions.
use Rattle.std.specs.Prelude.{ℕ, ◌%◌, ◌*◌, ◌^◌, List, [], ◌∷◌, pos, unsigned_abs, fold, bit_xor}
use Rattle.std.specs.Int.{int_rem_euclid}
use Rattle.std.specs.List.{flat_map}
use Rattle.ds_value.specs.declared.value.Value.{Value}
use Rattle.ds_value.specs.declared.value.Value.TheVariants.{Null, Int, UInt, Dec, Text, Date}
use Rattle.ds_value.specs.Canonical.{canonical_bytes}
use Rattle.ds_value.specs.Values.{number}
use Rattle.ds_schema.specs.Rows.{at, val}
use Rattle.ds_place.specs.declared.place.Place.{Place}
use Rattle.ds_place.specs.declared.place.Place.TheVariants.{Hash, Modulus}

-- FNV-1a of 64 bits, where h is the hash of the bytes before
abbrev pub hash_on : ℕ → List ℕ → ℕ
hash_on h bytes = fold (λ h b. (bit_xor h b * 0x100000001b3) % 2 ^ 64) h bytes

unfoldable pub fnv : List ℕ → ℕ
fnv bytes = hash_on 0xcbf29ce484222325 bytes

-- of the canonical bytes of some values
abbrev pub hash_number : ℕ → List Value → ℕ
hash_number n vs = fnv (flat_map canonical_bytes vs) % n

-- of the first value, never negative; null counts as 0
abbrev pub modulus_number : ℕ → List Value → ℕ
modulus_number n vs = unsigned_abs (int_rem_euclid (number (at vs 0)) (pos n))

abbrev pub place_number : Place → List Value → ℕ → ℕ
place_number (Hash K) r n = hash_number n (val K r)
place_number (Modulus c) r n = modulus_number n (val (c ∷ []) r)

-- the columns in which a place looks
abbrev pub columns_read : Place → List ℕ
columns_read (Hash K) = K
columns_read (Modulus c) = c ∷ []

-- a whole number, or null
abbrev pub IsWhole : Value → Type 0
IsWhole Null = Unit {0}
IsWhole (Int z) = Unit {0}
IsWhole (UInt n) = Unit {0}
IsWhole (Dec z) = ⊥
IsWhole (Text b) = ⊥
IsWhole (Date z) = ⊥

-- a modulus column holds a whole number or null
abbrev pub HoldsWhole : Place → List Value → Type 0
HoldsWhole (Hash K) r = Unit {0}
HoldsWhole (Modulus c) r = IsWhole (at r c)
