-- What is kept of the rows of a group so far.
use Rattle.std.specs.Prelude.{◌≡◌, ⊤, ℕ, zero, suc, ◌+◌, ◌*◌, ◌^◌, ◌≤◌, min, ℤ, pos, neg_ℤ, ◌≤ℤ◌, Option, Some, None, List, [], ◌∷◌, ◌++◌, map, length, if◌then◌else◌}
use Rattle.std.specs.List.{AllByRecursion}
use Rattle.ds_value.specs.declared.value.Value.{Value}
use Rattle.ds_value.specs.declared.value.Value.TheVariants.{Null, Int, UInt, Dec, Text, Date}
use Rattle.streams.specs.Streams.{Out, sends, fails}
use Rattle.op_base.specs.declared.fault.Fault.{Fault}
use Rattle.op_base.specs.Columns.{Row}
use Rattle.op_base.specs.Meanings.{row_of, overflow}
use Rattle.op_group.specs.declared.agg.Agg.{Agg}
use Rattle.op_group.specs.declared.agg.Agg.TheVariants as agg
use Rattle.op_group.specs.declared.sum.Number.{Number}
use Rattle.op_group.specs.declared.sum.Number.TheVariants as kind
use Rattle.op_group.specs.declared.sum.Sum.{Sum}
use Rattle.op_group.specs.declared.running.Running.{Running}
use Rattle.op_group.specs.declared.running.Running.TheVariants as running
use Rattle.op_group.specs.declared.tally.Tally.{Tally}
use Rattle.op_group.specs.Results.{group_fault, is_null, both, present, total, as_int, as_uint, lesser, least, greatest, first_value, last_value, column}

-- the variant of a number
abbrev pub number_kind : Value → Option Number
number_kind Null = None
number_kind (Int z) = Some kind.Int
number_kind (UInt n) = Some kind.UInt
number_kind (Dec z) = Some kind.Dec
number_kind (Text b) = None
number_kind (Date z) = None

-- of several variants a decimal, else one without a sign
abbrev pub wider : Option Number → Option Number → Option Number
wider None more = more
wider (Some kind.Dec) more = Some kind.Dec
wider (Some kind.UInt) (Some kind.Dec) = Some kind.Dec
wider (Some kind.UInt) more = Some kind.UInt
wider (Some kind.Int) None = Some kind.Int
wider (Some kind.Int) (Some n) = Some n

abbrev pub sum_kind : List Value → Option Number
sum_kind [] = None
sum_kind (v ∷ vs) = wider (number_kind v) (sum_kind vs)

-- between -n and n
abbrev pub IsWithin : ℕ → ℤ → Type 0
IsWithin n z = (neg_ℤ (pos n) ≤ℤ z) × (z ≤ℤ pos n)

-- nothing for a null
abbrev pub shown : Value → List Value
shown v = if is_null v then [] else v ∷ []

-- the sum of these values of so many rows
pub record SumStands (rows : ℕ) (values : List Value) (sum : Sum) : Type 0 where
  pub total_is : sum.total ≡ total values
  pub kind_is : sum.kind ≡ sum_kind values
  pub within : IsWithin (rows * 2 ^ 64) sum.total

abbrev pub kept_sum : Option Number → ℤ → Option Value
kept_sum None z = Some Null
kept_sum (Some kind.Int) z = as_int z
kept_sum (Some kind.UInt) z = as_uint z
kept_sum (Some kind.Dec) z = Some (Dec z)

-- the least of what is kept, null where there is nothing, and of one value more
abbrev pub least_with : Value → Value → Value
least_with kept v = if is_null v then kept else if is_null kept then v else lesser kept v

abbrev pub agg_of : Running → Agg
agg_of (running.Sum s) = agg.Sum s.col
agg_of running.Count = agg.Count
agg_of (running.Min k) = agg.Min k.col
agg_of (running.Max k) = agg.Max k.col
agg_of (running.First k) = agg.First k.col
agg_of (running.Last k) = agg.Last k.col

abbrev pub RunningStands : List Row → Running → Type 0
RunningStands rows (running.Sum s) = SumStands (length rows) (present s.col rows) s
RunningStands rows running.Count = ⊤
RunningStands rows (running.Min k) = k.value ≡ least (present k.col rows)
RunningStands rows (running.Max k) = k.value ≡ greatest (present k.col rows)
RunningStands rows (running.First k) = k.value ≡ first_value (column k.col rows)
RunningStands rows (running.Last k) = k.value ≡ last_value (column k.col rows)

-- the result of so many rows
abbrev pub kept_value : ℕ → Running → Option Value
kept_value count (running.Sum s) = kept_sum s.kind s.total
kept_value count running.Count = Some (UInt count)
kept_value count (running.Min k) = Some k.value
kept_value count (running.Max k) = Some k.value
kept_value count (running.First k) = Some k.value
kept_value count (running.Last k) = Some k.value

abbrev pub kept_results : ℕ → List Running → Option (List Value)
kept_results count [] = Some []
kept_results count (k ∷ kept) = both (kept_value count k) (kept_results count kept)

-- what was kept of some rows is kept of them and one more
pub record Follows (before : ℕ) (row : Row) (old new : Running) : Type 0 where
  pub agg_is : agg_of new ≡ agg_of old
  pub stands : (rows : List Row) → length rows ≡ before → RunningStands rows old → RunningStands (rows ++ row ∷ []) new

-- the first of these follow the old ones, the others are unchanged
abbrev pub FollowTo : ℕ → Row → ℕ → List Running → List Running → Type 0
FollowTo before row n [] [] = ⊤
FollowTo before row n [] (new ∷ news) = ⊥
FollowTo before row n (old ∷ olds) [] = ⊥
FollowTo before row zero (old ∷ olds) (new ∷ news) = (new ≡ old) × FollowTo before row 0 olds news
FollowTo before row (suc n) (old ∷ olds) (new ∷ news) = Follows before row old new × FollowTo before row n olds news

-- rows are counted up to one more than a group may have
pub record TallyStands (aggs : List Agg) (rows : List Row) (tally : Tally) : Type 0 where
  pub aggs_are : map agg_of tally.running.items ≡ aggs
  pub count_is : tally.count ≡ min (length rows) (2 ^ 62 + 1)
  pub each : length rows ≤ 2 ^ 62 → AllByRecursion (RunningStands rows) tally.running.items

-- what a group of these key values gives for its results
abbrev pub given : List Value → Option (List Value) → List (Out Row Fault)
given values found = map (sends 0) (row_of values found) ++ map fails (overflow (group_fault values) found)
