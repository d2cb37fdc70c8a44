-- What groups give of whole lists: what they mean.
use Rattle.std.specs.Prelude.{◌≡◌, ℕ, suc, true, false, List, [], ◌∷◌}
use Rattle.streams.specs.Streams.{Out, Gives, on, faults_out}
use Rattle.ds_schema.specs.declared.key.Key.{Key}
use Rattle.ds_schema.specs.Rows.{cols, ways, row_cmp}
use Rattle.op_base.specs.declared.fault.Fault.{Fault}
use Rattle.op_base.specs.Columns.{Row}
use Rattle.op_base.specs.Feeds.{by_runs}
use Rattle.op_base.specs.Keyed.{for_values}
use Rattle.op_base.specs.Lists.{IsArranged}
use Rattle.op_base.specs.Meanings.{input, group_rows, group_faults}
use Rattle.op_group.specs.declared.agg.Agg.{Agg}
use Rattle.op_group.specs.Results.{grouping}
use Rattle.op_group.specs.Groups.{sorted_stream, hashed_stream}

-- these rows on output 0, nothing on others, and these faults
pub record AreGiven (rows : List Row) (faults : List Fault) (given : List (Out Row Fault)) : Type 0 where
  pub rows_are : on 0 given ≡ rows
  pub no_more : (q : ℕ) → on (suc q) given ≡ []
  pub faults_are : faults_out given ≡ faults

-- fed any list, a group of sorted rows gives what its rule gives run by run
abbrev pub SortedGroups : Type 0
SortedGroups = (keys : List Key) (aggs : List Agg) (lists : ℕ → List Row) (given : List (Out Row Fault)) → Gives (sorted_stream keys aggs) lists given → AreGiven
    (by_runs (ways keys) (cols keys ∷ []) (λ v same. group_rows (grouping keys false aggs) v (input 0 same)) (lists 0 ∷ []))
    (by_runs (ways keys) (cols keys ∷ []) (λ v same. group_faults (grouping keys false aggs) v (input 0 same)) (lists 0 ∷ []))
    given

-- on a list in the order of its keys, that is what a group means: key value by key value, in that order
abbrev pub OrderedGroups : Type 0
OrderedGroups = (keys : List Key) (aggs : List Agg) (lists : ℕ → List Row) (given : List (Out Row Fault)) → IsArranged (row_cmp keys) (lists 0) → Gives (sorted_stream keys aggs) lists given → AreGiven
    (for_values false (ways keys) (cols keys ∷ []) (λ v same. group_rows (grouping keys false aggs) v (input 0 same)) (lists 0 ∷ []))
    (for_values false (ways keys) (cols keys ∷ []) (λ v same. group_faults (grouping keys false aggs) v (input 0 same)) (lists 0 ∷ []))
    given

-- fed any list, a hashed group gives what it means: key value by key value, in the order of first rows
abbrev pub HashedGroups : Type 0
HashedGroups = (keys : List Key) (aggs : List Agg) (lists : ℕ → List Row) (given : List (Out Row Fault)) → Gives (hashed_stream keys aggs) lists given → AreGiven
    (for_values true (ways keys) (cols keys ∷ []) (λ v same. group_rows (grouping keys true aggs) v (input 0 same)) (lists 0 ∷ []))
    (for_values true (ways keys) (cols keys ∷ []) (λ v same. group_faults (grouping keys true aggs) v (input 0 same)) (lists 0 ∷ []))
    given
