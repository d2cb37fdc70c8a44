-- What the streams give of whole lists: what the operators mean.
use Rattle.std.specs.Prelude.{◌≡◌, ℕ, Bool, false, List, [], ◌∷◌, map, length}
use Rattle.std.specs.List.{AllByRecursion}
use Rattle.streams.specs.Streams.{Out, sends, on, faults_out, Gives}
use Rattle.ds_schema.specs.declared.key.Key.{Key}
use Rattle.ds_schema.specs.Rows.{cols, ways}
use Rattle.op_base.specs.declared.fault.Fault.{Fault}
use Rattle.op_base.specs.Columns.{Row}
use Rattle.op_base.specs.Feeds.{AreSorted, by_runs}
use Rattle.op_base.specs.Keyed.{for_values}
use Rattle.op_base.specs.Meanings.{Merging, change_rule, columns_of, merge_rule, ways_of}
use Rattle.op_runs.specs.KeyedStreams.{at_ports}
use Rattle.op_match.specs.Captures.{capturing, capture_stream}
use Rattle.op_match.specs.Merges.{merge_stream}

abbrev pub HaveWidth : ℕ → List Row → Type 0
HaveWidth width rows = AllByRecursion (λ r. length r ≡ width) rows

-- fed two lists of rows of one width in the order of the keys, changecapture gives for each key value, in that order, the rows that it means; they go to output 0, and there is no fault
abbrev pub CapturesMatch : Type 0
CapturesMatch = (keys : List Key) (values : List ℕ) (keep : Bool) (width : ℕ) (lists : ℕ → List Row) (outs : List (Out Row Fault)) → HaveWidth width (lists 0) → HaveWidth width (lists 1) → AreSorted (ways keys) (cols keys ∷ (cols keys ∷ [])) (lists 0 ∷ (lists 1 ∷ [])) →
    Gives (capture_stream keys values keep) lists outs → outs ≡ map (sends 0) (for_values false (ways keys) (cols keys ∷ (cols keys ∷ [])) (change_rule (capturing keys values keep width)) (lists 0 ∷ (lists 1 ∷ [])))

-- fed any two lists of rows of one width, it gives what it means of the runs of the least value, again and again
abbrev pub CapturesMatchRuns : Type 0
CapturesMatchRuns = (keys : List Key) (values : List ℕ) (keep : Bool) (width : ℕ) (lists : ℕ → List Row) (outs : List (Out Row Fault)) → HaveWidth width (lists 0) → HaveWidth width (lists 1) →
    Gives (capture_stream keys values keep) lists outs → outs ≡ map (sends 0) (by_runs (ways keys) (cols keys ∷ (cols keys ∷ [])) (change_rule (capturing keys values keep width)) (lists 0 ∷ (lists 1 ∷ [])))

-- each output has these rows, and there is no fault
pub record AreMerged (rows : ℕ → List Row) (outs : List (Out Row Fault)) : Type 0 where
  pub rows_are : (q : ℕ) → on q outs ≡ rows q
  pub no_faults : faults_out outs ≡ []

-- fed lists in the order of the keys, merge gives on each output for each key value, in that order, the rows that it means, and no fault
abbrev pub MergesMatch : Type 0
MergesMatch = (m : Merging) (lists : ℕ → List Row) (outs : List (Out Row Fault)) → AreSorted (ways_of m.keys) (columns_of m.keys) (at_ports lists 0 (length m.keys)) → Gives (merge_stream m) lists outs →
    AreMerged (λ q. for_values false (ways_of m.keys) (columns_of m.keys) (merge_rule m q) (at_ports lists 0 (length m.keys))) outs

-- fed any lists, it gives what it means of the runs of the least value, again and again
abbrev pub MergesMatchRuns : Type 0
MergesMatchRuns = (m : Merging) (lists : ℕ → List Row) (outs : List (Out Row Fault)) → Gives (merge_stream m) lists outs →
    AreMerged (λ q. by_runs (ways_of m.keys) (columns_of m.keys) (merge_rule m q) (at_ports lists 0 (length m.keys))) outs
