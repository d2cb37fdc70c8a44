-- The order of values: null first, then by variant, then by content; texts go by their bytes.
use Rattle.std.specs.Prelude.{ℕ, List, [], ℤ, pos}
use Rattle.std.specs.Ordering.{nat_cmp, int_cmp, ordering_then}
use Rattle.std.specs.Cmp.Lexicographic.{slice_cmp}
use Rattle.std.specs.declared.cmp.Ordering.{Ordering}
use Rattle.ds_value.specs.declared.value.Value.{Value}
use Rattle.ds_value.specs.declared.value.Value.TheVariants.{Null, Int, UInt, Dec, Text, Date}

-- the place of a value's variant among the variants
abbrev pub variant : Value → ℕ
variant Null = 0
variant (Int n) = 1
variant (UInt n) = 2
variant (Dec n) = 3
variant (Text b) = 4
variant (Date n) = 5

-- what a number or a date holds
abbrev pub number : Value → ℤ
number Null = pos 0
number (Int n) = n
number (UInt n) = pos n
number (Dec n) = n
number (Text b) = pos 0
number (Date n) = n

-- what a text holds
abbrev pub letters : Value → List ℕ
letters Null = []
letters (Int n) = []
letters (UInt n) = []
letters (Dec n) = []
letters (Text b) = b
letters (Date n) = []

abbrev pub value_cmp : Value → Value → Ordering
value_cmp a b = ordering_then (nat_cmp (variant a) (variant b)) (ordering_then (int_cmp (number a) (number b)) (slice_cmp nat_cmp (letters a) (letters b)))
