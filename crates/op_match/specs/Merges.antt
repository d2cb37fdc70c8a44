-- What merge gives for a key value on all its outputs, its stream, and the rows that suit it.
use Rattle.std.specs.Prelude.{⊤, ℕ, zero, suc, ◌<◌, Bool, true, not, ◌&&◌, List, [], ◌∷◌, map, length, drop, get_or}
use Rattle.std.specs.List.{AllByRecursion, filter, flat_map, list_all, range_with_len}
use Rattle.streams.specs.Streams.{Feed, sends, rows_of}
use Rattle.ds_schema.specs.declared.key.Key.{Key}
use Rattle.ds_schema.specs.Rows.{cols}
use Rattle.op_base.specs.Columns.{Row, all_columns, is_in}
use Rattle.op_base.specs.Meanings.{Merging, columns_of, merge_rule, ways_of}
use Rattle.op_base.specs.Standing.{RowStream}
use Rattle.op_runs.specs.KeyedStreams.{KeyRule, keyed_stream}
use Rattle.op_match.specs.Suiting.{row_suits}

-- the columns that no key names, in their order
abbrev pub others : List Key → ℕ → List ℕ
others keys width = filter (λ c. not (is_in c (cols keys))) (all_columns width)

-- of inputs with these keys and widths
abbrev pub others_in : List (List Key) → List ℕ → List (List ℕ)
others_in [] widths = []
others_in (k ∷ keys) [] = []
others_in (k ∷ keys) (w ∷ widths) = others k w ∷ others_in keys widths

-- merge of rows of these widths, those of the master first
abbrev pub merging : List (List Key) → List ℕ → Bool → Bool → Merging
merging keys widths keep reject = record {
  keys = keys;
  master = all_columns (get_or widths 0 0);
  others = others_in (drop 1 keys) (drop 1 widths);
  keeps_bad = keep;
  rejects = reject;
}

-- each key of each input names a column of its rows
abbrev pub AreBelow : ℕ → List Key → Type 0
AreBelow width keys = AllByRecursion (λ (key : Key). key.col < width) keys

abbrev pub AreWithin : List ℕ → List (List Key) → Type 0
AreWithin widths [] = ⊤
AreWithin [] (k ∷ keys) = ⊥
AreWithin (w ∷ widths) (k ∷ keys) = AreBelow w k × AreWithin widths keys

-- what goes to each output, one output after another; there are as many as inputs
abbrev pub merge_outs : Merging → KeyRule
merge_outs m v inputs = flat_map (λ q. map (sends q) (merge_rule m q v inputs)) (range_with_len 0 (length inputs))

abbrev pub merge_stream : Merging → RowStream
merge_stream m = keyed_stream (ways_of m.keys) (columns_of m.keys) (merge_outs m)

-- a row that can be fed has the values of its port's columns, and no text is too long
abbrev pub suits_from : ℕ → List ℕ → List (Feed Row) → Bool
suits_from i [] feeds = true
suits_from i (w ∷ widths) feeds = list_all (row_suits w) (rows_of i feeds) && suits_from (suc i) widths feeds

abbrev pub merge_suits : List ℕ → List (Feed Row) → Bool
merge_suits widths feeds = suits_from 0 widths feeds
