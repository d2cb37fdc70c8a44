-- What a group of sorted rows keeps: the run that came last.
use Rattle.std.specs.Prelude.{◌≡◌, Bool, true, false, if◌then◌else◌, Option, Some, None, List, [], ◌∷◌, ◌++◌}
use Rattle.std.specs.List.{AllByRecursion}
use Rattle.streams.specs.Streams.{Feed, Out, ended, rows_of}
use Rattle.streams.specs.Lists.{runs_of}
use Rattle.streams.specs.Operators.{begins_run, last_run}
use Rattle.ds_schema.specs.declared.key.Key.{Key}
use Rattle.ds_schema.specs.Rows.{val, cols}
use Rattle.op_base.specs.declared.emit.Emit.{Emit}
use Rattle.op_base.specs.declared.fault.Fault.{Fault}
use Rattle.op_base.specs.Columns.{Row}
use Rattle.op_base.specs.Emits.{Adds}
use Rattle.op_group.specs.declared.agg.Agg.{Agg}
use Rattle.op_group.specs.declared.sorted.Run.{Run}
use Rattle.op_group.specs.Groups.{same_key, run_group, row_suits}
use Rattle.op_group.specs.Kept.{TallyStands}

-- the rows of a run, which have the key value of the first
pub record IsRun (keys : List Key) (aggs : List Agg) (run : Run) (rows : List Row) : Type 0 where
  pub rest : List Row
  pub rows_are : rows ≡ run.first ∷ rest
  pub alike : AllByRecursion (λ r. val (cols keys) r ≡ val (cols keys) run.first) rest
  pub suits : row_suits keys aggs run.first ≡ true
  pub tally : TallyStands aggs rows run.tally

abbrev pub RunStands : List Key → List Agg → Option Run → List Row → Type 0
RunStands keys aggs None rows = rows ≡ []
RunStands keys aggs (Some run) rows = IsRun keys aggs run rows

-- a row is in the run, or begins another
abbrev pub run_with : List Key → List Row → Row → List Row
run_with keys rows r = if begins_run (same_key keys) rows r then r ∷ [] else rows ++ r ∷ []

-- the run is complete where the row begins another
abbrev pub turn_outs : List Key → List Agg → List Row → Row → List (Out Row Fault)
turn_outs keys aggs rows r = if begins_run (same_key keys) rows r then run_group keys aggs rows else []

pub record Turns (keys : List Key) (aggs : List Agg) (rows : List Row) (r : Row) (run : Run) (old new : Emit) : Type 0 where
  pub stands : IsRun keys aggs run (run_with keys rows r)
  pub adds : Adds old new (turn_outs keys aggs rows r)

-- until its port ends a GroupSorted has the last run of what it was fed
pub record SortedStands (keys : List Key) (aggs : List Agg) (over : Bool) (run : Option Run) (feeds : List (Feed Row)) : Type 0 where
  pub over_is : over ≡ ended 0 feeds
  pub run_is : over ≡ false → RunStands keys aggs run (last_run (runs_of (same_key keys) (rows_of 0 feeds)))
