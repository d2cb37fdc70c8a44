-- Canonical bytes: a byte that names the variant, then the content, numbers in two's complement and big-endian.
use Rattle.std.specs.Prelude.{ℕ, FitsSigned, ◌<◌, ◌^◌, List, [], ◌∷◌, ◌++◌, length}
use Rattle.std.specs.Int.{w32, w64, w128, to_be_bytes, cast_unsigned}
use Rattle.ds_value.specs.declared.value.Value.{Value}
use Rattle.ds_value.specs.declared.value.Value.TheVariants.{Null, Int, UInt, Dec, Text, Date}

abbrev pub canonical_bytes : Value → List ℕ
canonical_bytes Null = 0 ∷ []
canonical_bytes (Int z) = 1 ∷ to_be_bytes w64 (cast_unsigned w64 z)
canonical_bytes (UInt n) = 2 ∷ to_be_bytes w64 n
canonical_bytes (Dec z) = 3 ∷ to_be_bytes w128 (cast_unsigned w128 z)
canonical_bytes (Text b) = 4 ∷ to_be_bytes w32 (length b) ++ b
canonical_bytes (Date z) = 5 ∷ to_be_bytes w32 (cast_unsigned w32 z)

-- the length of a text fits its four bytes
abbrev pub IsShort : Value → Type 0
IsShort Null = Unit {0}
IsShort (Int z) = Unit {0}
IsShort (UInt n) = Unit {0}
IsShort (Dec z) = Unit {0}
IsShort (Text b) = length b < 2 ^ 32
IsShort (Date z) = Unit {0}

-- the numbers lie in the ranges that the variants hold
abbrev pub IsHeld : Value → Type 0
IsHeld Null = Unit {0}
IsHeld (Int z) = FitsSigned w64 z
IsHeld (UInt n) = n < 2 ^ 64
IsHeld (Dec z) = FitsSigned w128 z
IsHeld (Text b) = Unit {0}
IsHeld (Date z) = FitsSigned w32 z
