-- Rows, the values of some of their columns, and how a key list orders rows.
use Rattle.std.specs.Prelude.{◌≡◌, ◌<◌, ℕ, Bool, true, false, List, [], ◌∷◌, length, map, get_or}
use Rattle.std.specs.declared.cmp.Ordering.{Ordering}
use Rattle.std.specs.declared.cmp.Ordering.TheVariants.{Less, Equal, Greater}
use Rattle.std.specs.Ordering.{ordering_then, is_eq}
use Rattle.std.specs.Cmp.Lexicographic.{slice_cmp}
use Rattle.std.specs.List.{filter, AllByRecursion}
use Rattle.ds_value.specs.declared.value.Value.{Value}
use Rattle.ds_value.specs.declared.value.Value.TheVariants.{Null}
use Rattle.ds_value.specs.Values.{value_cmp}
use Rattle.ds_schema.specs.declared.key.Key.{Key}

-- the value in a column; null past the end of the row
abbrev pub at : List Value → ℕ → Value
at row col = get_or row col Null

-- the values of a row in some columns
abbrev pub val : List ℕ → List Value → List Value
val cs row = map (at row) cs

-- the rows that have these values in these columns
abbrev pub has : List ℕ → List Value → List Value → Bool
has cs v row = is_eq (slice_cmp value_cmp (val cs row) v)

abbrev pub sub : List ℕ → List Value → List (List Value) → List (List Value)
sub cs v rows = filter (has cs v) rows

abbrev pub cols : List Key → List ℕ
cols [] = []
cols (k ∷ keys) = k.col ∷ cols keys

-- whether each key's order is descending
abbrev pub ways : List Key → List Bool
ways [] = []
ways (k ∷ keys) = k.desc ∷ ways keys

-- the other way round where the column descends
abbrev pub turned_cmp : Bool → Value → Value → Ordering
turned_cmp false a b = value_cmp a b
turned_cmp true a b = value_cmp b a

abbrev pub way : List Bool → Bool
way [] = false
way (b ∷ bs) = b

abbrev pub ways_behind : List Bool → List Bool
ways_behind [] = []
ways_behind (b ∷ bs) = bs

-- value by value, each the other way round where that is said
abbrev pub vals_cmp : List Bool → List Value → List Value → Ordering
vals_cmp ds [] [] = Equal
vals_cmp ds [] (b ∷ w) = Less
vals_cmp ds (a ∷ v) [] = Greater
vals_cmp ds (a ∷ v) (b ∷ w) = ordering_then (turned_cmp (way ds) a b) (vals_cmp (ways_behind ds) v w)

-- the order of rows by a key list
abbrev pub row_cmp : List Key → List Value → List Value → Ordering
row_cmp keys a b = vals_cmp (ways keys) (val (cols keys) a) (val (cols keys) b)

-- each of these columns is a column of a row
abbrev pub InWidth : List Value → ℕ → Type 0
InWidth row col = col < length row

abbrev pub KeyInWidth : List Value → Key → Type 0
KeyInWidth row key = key.col < length row

-- no two keys name one column
abbrev pub KeysDiffer : List Key → Type 0
KeysDiffer [] = Unit {0}
KeysDiffer (k ∷ keys) = AllByRecursion (λ other. k.col ≡ other.col → ⊥) keys × KeysDiffer keys
