-- Laws of sorting, merging, collecting and runs.
use Rattle.std.specs.Prelude.{◌≡◌, ℕ, Bool, false, List, [], ◌∷◌, ◌++◌, None}
use Rattle.std.specs.List.{AllByRecursion}
use Rattle.std.specs.List.Sorted.{IsSorted, IsStable, IsPermutation}
use Rattle.std.specs.Cmp.{IsTotalOrder}
use Rattle.ds_value.specs.declared.value.Value.{Value}
use Rattle.ds_schema.specs.declared.key.Key.{Key}
use Rattle.ds_schema.specs.Rows.{row_cmp}
use Rattle.op_base.specs.Columns.{Row}
use Rattle.op_base.specs.Feeds.{AreSorted, by_runs, emits, left, fed, end_at, IsOpen, at_once}
use Rattle.op_base.specs.Keyed.{arranged, for_values}
use Rattle.op_base.specs.Lists.{joined, in_turn, Interleaves, Merges, IsArranged}
use Rattle.op_base.specs.Meanings.{input, one_row}

abbrev pub RowOrderIsTotal : Type 0
RowOrderIsTotal = (keys : List Key) → IsTotalOrder (row_cmp keys)

-- what a stable sort leaves is the arranged list, which is in order and has the same rows
abbrev pub StableSortArranges : Type 0
StableSortArranges = (keys : List Key) (old new : List Row) → IsSorted (row_cmp keys) new → IsStable (row_cmp keys) old new → new ≡ arranged keys old

abbrev pub ArrangedIsSorted : Type 0
ArrangedIsSorted = (keys : List Key) (rows : List Row) → IsArranged (row_cmp keys) (arranged keys rows)

abbrev pub ArrangedIsSame : Type 0
ArrangedIsSame = (keys : List Key) (rows : List Row) → IsPermutation (arranged keys rows) rows

-- the merge of sorted lists is the arranged list of all of them, one after another
abbrev pub MergeArranges : Type 0
MergeArranges = (keys : List Key) (lists : List (List Row)) (rows : List Row) → AllByRecursion (IsArranged (row_cmp keys)) lists → Merges (row_cmp keys) lists rows → rows ≡ arranged keys (joined lists)

abbrev pub MergeInterleaves : Type 0
MergeInterleaves = (keys : List Key) (lists : List (List Row)) (rows : List Row) → Merges (row_cmp keys) lists rows → Interleaves lists rows

abbrev pub JoinedInterleaves : Type 0
JoinedInterleaves = (lists : List (List Row)) → Interleaves lists (joined lists)

abbrev pub TurnsInterleave : Type 0
TurnsInterleave = (lists : List (List Row)) → Interleaves lists (in_turn lists)

-- a rule for key values, run by run on sorted lists, gives what it gives value by value
abbrev pub RunsAreValues : Type 0
RunsAreValues = (ds : List Bool) (columns : List (List ℕ)) (rule : List Value → List (List Row) → List Row) (inputs : List (List Row)) → AreSorted ds columns inputs → by_runs ds columns rule inputs ≡ for_values false ds columns rule inputs

-- what one more row, and the end of a port, add to what was emitted: what the rows that are left give with it
abbrev pub FeedEmits : Type 0
FeedEmits = (ds : List Bool) (columns : List (List ℕ)) (rule : List Value → List (List Row) → List Row) (ended : List Bool) (i : ℕ) (x : Row) (inputs : List (List Row)) → IsOpen i ended →
    emits ds columns rule ended (fed i x inputs) ≡ emits ds columns rule ended inputs ++ emits ds columns rule ended (fed i x (left ds columns ended inputs))

abbrev pub EndEmits : Type 0
EndEmits = (ds : List Bool) (columns : List (List ℕ)) (rule : List Value → List (List Row) → List Row) (ended : List Bool) (i : ℕ) (inputs : List (List Row)) →
    emits ds columns rule (end_at i ended) inputs ≡ emits ds columns rule ended inputs ++ emits ds columns rule (end_at i ended) (left ds columns ended inputs)

-- the first row of each run, at once
abbrev pub FirstsAtOnce : Type 0
FirstsAtOnce = (ds : List Bool) (cs : List ℕ) (rows : List Row) → by_runs ds (cs ∷ []) (λ v same. one_row false (input 0 same)) (rows ∷ []) ≡ at_once cs None rows
