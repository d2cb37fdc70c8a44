-- What the collectors and funnels give of whole lists: rows on output 0, and no faults.
use Rattle.std.specs.Prelude.{◌≡◌, ℕ, ◌<◌, List, map}
use Rattle.std.specs.List.{AllByRecursion}
use Rattle.streams.specs.Lists.{lists_from}
use Rattle.streams.specs.Operators.{any_stream, ordered_stream, round_robin_stream, merge_stream}
use Rattle.streams.specs.Streams.{Out, sends, Gives, IsStream}
use Rattle.ds_schema.specs.declared.key.Key.{Key}
use Rattle.ds_schema.specs.Rows.{row_cmp}
use Rattle.op_base.specs.declared.fault.Fault.{Fault}
use Rattle.op_base.specs.Columns.{Row}
use Rattle.op_base.specs.Keyed.{arranged}
use Rattle.op_base.specs.Lists.{joined, in_turn, Interleaves, Merges, IsArranged}
use Rattle.op_base.specs.Standing.{RowStream}

-- fed the first n of any lists to their ends, it gives rows that are such of these lists
abbrev pub GivesRows : ℕ → RowStream → (List (List Row) → List Row → Type 0) → Type 0
GivesRows n stream Such = (lists : ℕ → List Row) (outs : List (Out Row Fault)) → Gives stream lists outs → (rows : List Row) × (outs ≡ map (sends 0) rows) × Such (lists_from lists 0 n) rows

-- one after another
abbrev pub OrderedJoins : Type 0
OrderedJoins = (n : ℕ) → 0 < n → IsStream (ordered_stream {X = Row} {F = Fault} n) × GivesRows n (ordered_stream n) (λ lists rows. rows ≡ joined lists)

-- one row of each in turn
abbrev pub RoundTakesTurns : Type 0
RoundTakesTurns = (n : ℕ) → 0 < n → IsStream (round_robin_stream {X = Row} {F = Fault} n) × GivesRows n (round_robin_stream n) (λ lists rows. rows ≡ in_turn lists)

-- the least row again and again, a tie to the smaller port
abbrev pub SortMergeMerges : Type 0
SortMergeMerges = (n : ℕ) (keys : List Key) → 0 < n → IsStream (merge_stream {X = Row} {F = Fault} n (row_cmp keys)) × GivesRows n (merge_stream n (row_cmp keys)) (λ lists rows. Merges (row_cmp keys) lists rows)

-- of lists in the order of the keys, all rows arranged
abbrev pub SortMergeArranges : Type 0
SortMergeArranges = (n : ℕ) (keys : List Key) → 0 < n → GivesRows n (merge_stream n (row_cmp keys)) (λ lists rows. AllByRecursion (IsArranged (row_cmp keys)) lists → rows ≡ arranged keys (joined lists))

-- as they come
abbrev pub GatherInterleaves : Type 0
GatherInterleaves = (n : ℕ) → 0 < n → IsStream (any_stream {X = Row} {F = Fault} n) × GivesRows n (any_stream n) (λ lists rows. Interleaves lists rows)
