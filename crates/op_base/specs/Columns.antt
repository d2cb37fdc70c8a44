-- Rows as lists of values, lists of columns, and the columns of one row that stand in another.
use Rattle.std.specs.Prelude.{ℕ, ◌^◌, nat_lt, Bool, true, false, cond, ◌&&◌, ◌==◌, List, [], ◌∷◌, length, Option, Some, None}
use Rattle.std.specs.List.{AllByRecursion, range_with_len}
use Rattle.ds_value.specs.declared.value.Value.{Value}
use Rattle.ds_value.specs.declared.value.Value.TheVariants.{Null, Int, UInt, Dec, Text, Date}
pub use Rattle.streams.specs.Lists.{IsIn}

abbrev pub Row : Type 0
Row = List Value

-- a missing row: all its columns are null
abbrev pub no_row : Row
no_row = []

-- a text of fewer than 2^32 bytes, or no text: a length that canonical bytes have room for
abbrev pub is_short : Value → Bool
is_short Null = true
is_short (Int z) = true
is_short (UInt n) = true
is_short (Dec z) = true
is_short (Text bytes) = nat_lt (length bytes) (2 ^ 32)
is_short (Date z) = true

-- each column of the first list is in the second
abbrev pub Lies : List ℕ → List ℕ → Type 0
Lies cs ds = AllByRecursion (λ c. IsIn c ds) cs

-- the same as tests
abbrev pub is_in : ℕ → List ℕ → Bool
is_in c [] = false
is_in c (d ∷ ds) = cond (c == d) true (is_in c ds)

abbrev pub lies : List ℕ → List ℕ → Bool
lies [] ds = true
lies (c ∷ cs) ds = is_in c ds && lies cs ds

-- the columns of a row with this number of values
abbrev pub all_columns : ℕ → List ℕ
all_columns width = range_with_len 0 width

-- columns of an input, each with the output column that holds its values
abbrev pub Pairs : Type 0
Pairs = List (ℕ × ℕ)

abbrev pub pairs_of : List ℕ → List ℕ → Pairs
pairs_of [] ds = []
pairs_of (c ∷ cs) [] = []
pairs_of (c ∷ cs) (d ∷ ds) = (c, d) ∷ pairs_of cs ds

-- what passes of an input's rows to an output: the rows as they are, or some of their columns
pub data Passing : Type 0 where
  everything : Passing
  only : Pairs → Passing

-- the output column that holds an input column's values, the first of them where there are several
abbrev pub column_in : Pairs → ℕ → Option ℕ
column_in [] c = None
column_in (e ∷ m) c = cond (e.0 == c) (Some (e.1)) (column_in m c)
