-- What a join's operator keeps of what it was fed.
use Rattle.std.specs.Prelude.{◌≡◌, ℕ, Bool, true, false, ◌||◌, Option, Some, None, is_some, option_to_list, List, [], ◌∷◌, ◌++◌}
use Rattle.std.specs.List.{AllByRecursion}
use Rattle.std.specs.Ordering.{is_eq}
use Rattle.streams.specs.Streams.{Feed, ended}
use Rattle.ds_value.specs.declared.value.Value.{Value}
use Rattle.ds_schema.specs.declared.key.Key.{Key}
use Rattle.ds_schema.specs.Rows.{cols, has, row_cmp, val, ways}
use Rattle.op_base.specs.Columns.{Row, no_row}
use Rattle.op_base.specs.Meanings.{Join, join_row}
use Rattle.op_runs.specs.KeyedStreams.{waiting}
use Rattle.op_join.specs.declared.layout.Layout.{Layout}
use Rattle.op_join.specs.declared.side.Side.{Side}
use Rattle.op_join.specs.Joining.{keeps_left, keeps_right, key_columns}

-- the join that a layout stands for
abbrev pub meant : Layout → Join
meant layout = record {
  left_keys = layout.left.keys;
  right_keys = layout.right.keys;
  left_others = layout.left.others.items;
  right_others = layout.right.others.items;
  keeps_left = keeps_left layout.kind;
  keeps_right = keeps_right layout.kind;
}

-- the row of a left row with a right row, and of a right row alone, with key values of their own
abbrev pub left_row : Join → Row → Row → Row
left_row j b a = join_row j (val (cols j.left_keys) a) a b

abbrev pub right_row : Join → Row → Row
right_row j b = join_row j (val (cols j.right_keys) b) no_row b

-- the rows of a side that wait
abbrev pub side_rows : Side → List Row
side_rows side = side.run.items ++ option_to_list side.next

abbrev pub is_complete : Side → Bool
is_complete side = side.over || is_some side.next

-- a row of other values
abbrev pub IsOther : List ℕ → List Value → Option Row → Type 0
IsOther cs v next = (r : Row) → next ≡ Some r → has cs v r ≡ false

-- rows of one value, then a row of other values or none
abbrev pub IsRun : List ℕ → List Row → Option Row → Type 0
IsRun cs [] next = next ≡ None
IsRun cs (r ∷ run) next = AllByRecursion (λ s. val cs s ≡ val cs r) run × IsOther cs (val cs r) next

-- a row has the key value of a run, if there is one
abbrev pub is_same : List Key → List Row → Row → Bool
is_same keys [] row = true
is_same keys (r ∷ run) row = is_eq (row_cmp keys row r)

-- its sides have what isn't taken off yet
pub record JoinStands (layout : Layout) (left right : Side) (feeds : List (Feed Row)) : Type 0 where
  pub same_ways : ways layout.left.keys ≡ ways layout.right.keys
  pub left_over : left.over ≡ ended 0 feeds
  pub right_over : right.over ≡ ended 1 feeds
  pub waits : side_rows left ∷ (side_rows right ∷ []) ≡ waiting (ways layout.left.keys) (key_columns (meant layout)) feeds
  pub left_run : IsRun (cols layout.left.keys) left.run.items left.next
  pub right_run : IsRun (cols layout.right.keys) right.run.items right.next
