-- What a join is made with, and its stream.
use Rattle.std.specs.Prelude.{◌<◌, ℕ, ◌==◌, Bool, true, false, not, ◌&&◌, List, [], ◌∷◌, map, length}
use Rattle.std.specs.List.{AllByRecursion, filter, list_all}
use Rattle.streams.specs.Streams.{Feed, sends, rows_of}
use Rattle.ds_schema.specs.declared.key.Key.{Key}
use Rattle.ds_schema.specs.Rows.{cols, ways}
use Rattle.op_base.specs.Columns.{Row, all_columns, is_in, is_short}
use Rattle.op_base.specs.Meanings.{Join, join_rule}
use Rattle.op_base.specs.Standing.{RowStream}
use Rattle.op_runs.specs.KeyedStreams.{KeyRule, keyed_stream}
use Rattle.op_join.specs.declared.kind.JoinKind.{JoinKind}
use Rattle.op_join.specs.declared.kind.JoinKind.TheVariants as kind

abbrev pub keeps_left : JoinKind → Bool
keeps_left kind.Inner = false
keeps_left kind.Left = true
keeps_left kind.Right = false
keeps_left kind.Full = true

abbrev pub keeps_right : JoinKind → Bool
keeps_right kind.Inner = false
keeps_right kind.Left = false
keeps_right kind.Right = true
keeps_right kind.Full = true

-- the columns that no key names, in their order
abbrev pub others : List Key → ℕ → List ℕ
others keys width = filter (λ c. not (is_in c (cols keys))) (all_columns width)

-- each key names a column of rows of this width
abbrev pub AreBelow : ℕ → List Key → Type 0
AreBelow width keys = AllByRecursion (λ (key : Key). key.col < width) keys

-- a join of rows of these widths
abbrev pub joining : JoinKind → List Key → List Key → ℕ → ℕ → Join
joining kind left right left_width right_width = record {
  left_keys = left;
  right_keys = right;
  left_others = others left left_width;
  right_others = others right right_width;
  keeps_left = keeps_left kind;
  keeps_right = keeps_right kind;
}

-- all rows of a key value go to output 0
abbrev pub join_outs : Join → KeyRule
join_outs j v inputs = map (sends 0) (join_rule j v inputs)

abbrev pub key_columns : Join → List (List ℕ)
key_columns j = cols j.left_keys ∷ (cols j.right_keys ∷ [])

abbrev pub join_stream : Join → RowStream
join_stream j = keyed_stream (ways j.left_keys) (key_columns j) (join_outs j)

-- a row that can be fed has the values of its port's columns, and no text is too long
abbrev pub row_suits : ℕ → Row → Bool
row_suits width r = (length r == width) && list_all is_short r

abbrev pub join_suits : ℕ → ℕ → List (Feed Row) → Bool
join_suits left_width right_width feeds = list_all (row_suits left_width) (rows_of 0 feeds) && list_all (row_suits right_width) (rows_of 1 feeds)
