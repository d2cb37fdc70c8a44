-- What sorting and the removal of duplicates give of whole lists: what they mean.
use Rattle.std.specs.Prelude.{◌≡◌, ℕ, Bool, List, [], ◌∷◌, map}
use Rattle.streams.specs.Streams.{Out, sends, Gives}
use Rattle.ds_schema.specs.declared.key.Key.{Key}
use Rattle.ds_schema.specs.Rows.{cols, ways, row_cmp}
use Rattle.op_base.specs.declared.fault.Fault.{Fault}
use Rattle.op_base.specs.Columns.{Row}
use Rattle.op_base.specs.Feeds.{by_runs}
use Rattle.op_base.specs.Keyed.{by_key, arranged}
use Rattle.op_base.specs.Lists.{IsArranged}
use Rattle.op_base.specs.Meanings.{input, one_row}
use Rattle.op_order.specs.Ordered.{tsort_stream, remdup_stream}

-- fed a list, tsort gives it arranged by the keys
abbrev pub TsortArranges : Type 0
TsortArranges = (keys : List Key) (lists : ℕ → List Row) (outs : List (Out Row Fault)) → Gives (tsort_stream keys) lists outs → outs ≡ map (sends 0) (arranged keys (lists 0))

-- fed a list in the order of the keys, remdup gives for each key value, in that order, its first row, or with -last its last
abbrev pub RemdupKeepsOne : Type 0
RemdupKeepsOne = (keys : List Key) (last : Bool) (lists : ℕ → List Row) (outs : List (Out Row Fault)) → IsArranged (row_cmp keys) (lists 0) → Gives (remdup_stream keys last) lists outs → outs ≡ map (sends 0) (by_key keys (one_row last) (lists 0))

-- fed any list, remdup gives of each run of rows of one key value its first row, or with -last its last
abbrev pub RemdupRuns : Type 0
RemdupRuns = (keys : List Key) (last : Bool) (lists : ℕ → List Row) (outs : List (Out Row Fault)) → Gives (remdup_stream keys last) lists outs → outs ≡ map (sends 0) (by_runs (ways keys) (cols keys ∷ []) (λ v same. one_row last (input 0 same)) (lists 0 ∷ []))

-- one row for each key value is the same of a list and of it arranged
abbrev pub RemdupSeesNoSort : Type 0
RemdupSeesNoSort = (keys : List Key) (last : Bool) (rows : List Row) → by_key keys (one_row last) (arranged keys rows) ≡ by_key keys (one_row last) rows
