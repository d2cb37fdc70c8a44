-- What a join gives of whole lists: what it means.
use Rattle.std.specs.Prelude.{◌≡◌, ℕ, false, List, [], ◌∷◌, map}
use Rattle.streams.specs.Streams.{Out, sends, Gives}
use Rattle.ds_schema.specs.Rows.{ways}
use Rattle.op_base.specs.declared.fault.Fault.{Fault}
use Rattle.op_base.specs.Columns.{Row}
use Rattle.op_base.specs.Feeds.{AreSorted, by_runs}
use Rattle.op_base.specs.Keyed.{for_values}
use Rattle.op_base.specs.Meanings.{Join, join_rule}
use Rattle.op_join.specs.Joining.{join_stream, key_columns}

-- fed two lists in the order of the keys, a join gives for each key value, in that order, the rows that it means; they go to output 0, and there is no fault
abbrev pub JoinsMatch : Type 0
JoinsMatch = (j : Join) (lists : ℕ → List Row) (outs : List (Out Row Fault)) → AreSorted (ways j.left_keys) (key_columns j) (lists 0 ∷ (lists 1 ∷ [])) → Gives (join_stream j) lists outs →
    outs ≡ map (sends 0) (for_values false (ways j.left_keys) (key_columns j) (join_rule j) (lists 0 ∷ (lists 1 ∷ [])))

-- fed any two lists, it gives what it means of the runs of the least value, again and again
abbrev pub JoinsMatchRuns : Type 0
JoinsMatchRuns = (j : Join) (lists : ℕ → List Row) (outs : List (Out Row Fault)) → Gives (join_stream j) lists outs →
    outs ≡ map (sends 0) (by_runs (ways j.left_keys) (key_columns j) (join_rule j) (lists 0 ∷ (lists 1 ∷ [])))
