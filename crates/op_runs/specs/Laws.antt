-- What streams by keys give of whole lists.
use Rattle.std.specs.Prelude.{◌≡◌, ℕ, ◌<◌, Bool, false, List, length}
use Rattle.streams.specs.Streams.{Out, Gives, IsStream, IsSingle}
use Rattle.op_base.specs.declared.fault.Fault.{Fault}
use Rattle.op_base.specs.Columns.{Row}
use Rattle.op_base.specs.Feeds.{AreSorted, by_runs}
use Rattle.op_base.specs.Keyed.{for_values}
use Rattle.op_runs.specs.KeyedStreams.{KeyRule, at_ports, keyed_stream}

abbrev pub KeyedIsStream : Type 0
KeyedIsStream = (ds : List Bool) (columns : List (List ℕ)) (rule : KeyRule) → 0 < length columns → IsStream (keyed_stream ds columns rule)

abbrev pub KeyedIsSingle : Type 0
KeyedIsSingle = (ds : List Bool) (columns : List (List ℕ)) (rule : KeyRule) → IsSingle (keyed_stream ds columns rule)

-- fed any lists, it gives what the rule gives for the runs of the least value, again and again
abbrev pub RunsAreGiven : Type 0
RunsAreGiven = (ds : List Bool) (columns : List (List ℕ)) (rule : KeyRule) (lists : ℕ → List Row) (outs : List (Out Row Fault)) → Gives (keyed_stream ds columns rule) lists outs → outs ≡ by_runs ds columns rule (at_ports lists 0 (length columns))

-- fed lists in the order of the keys, it gives what the rule gives for each value, in that order
abbrev pub ValuesAreGiven : Type 0
ValuesAreGiven = (ds : List Bool) (columns : List (List ℕ)) (rule : KeyRule) (lists : ℕ → List Row) (outs : List (Out Row Fault)) → AreSorted ds columns (at_ports lists 0 (length columns)) → Gives (keyed_stream ds columns rule) lists outs → outs ≡ for_values false ds columns rule (at_ports lists 0 (length columns))
