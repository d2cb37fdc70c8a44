-- What the operator of merge makes of rows.
use Rattle.std.specs.Prelude.{ℕ, Bool, true, false, cond, not, ◌&&◌, List, [], ◌∷◌, ◌++◌, drop, map}
use Rattle.ds_schema.specs.declared.key.Key.{Key}
use Rattle.ds_schema.specs.Rows.{val}
use Rattle.op_base.specs.Columns.{Row, all_columns}
use Rattle.op_base.specs.Meanings.{Merging, are_none, update_values}
use Rattle.op_runs.specs.KeyedStreams.{KeyRule}
use Rattle.op_match.specs.declared.layout.Layout.{Layout}
use Rattle.op_match.specs.declared.merge.Merger.{Merger}
use Rattle.op_match.specs.Merges.{merge_outs}
use Rattle.op_match.specs.Waiting.{keys_in}

-- the merge that a layout stands for
abbrev pub meant : List (List Key) → Layout → Merging
meant keys layout = record {
  keys = keys;
  master = all_columns layout.master;
  others = layout.others.items;
  keeps_bad = layout.keep;
  rejects = layout.reject;
}

abbrev pub merge_rule_of : Merger → KeyRule
merge_rule_of s = merge_outs (meant (keys_in s.sides.list.items) s.layout)

-- a master row with the first row of each update
abbrev pub joined : Layout → List (List Row) → Row → Row
joined layout updates r = val (all_columns layout.master) r ++ update_values layout.others.items updates

-- the master's rows that are kept
abbrev pub masters : Layout → List Row → List (List Row) → List Row
masters layout rows updates = cond (are_none updates && not layout.keep) [] (map (joined layout updates) rows)

-- an update's rows that aren't joined
abbrev pub left_over : Bool → List Row → List Row
left_over true rows = drop 1 rows
left_over false rows = rows
