-- Sorting and the removal of duplicates as streams, and what their operators keep of what they were fed.
use Rattle.std.specs.Prelude.{◌≡◌, Bool, true, false, if◌then◌else◌, Option, Some, None, option_to_list, List, [], ◌∷◌, map}
use Rattle.streams.specs.Streams.{Item, Feed, Out, sends, ended, rows_of}
use Rattle.streams.specs.Operators.{one_wanted, at_end, remdup_outs, run_outs, last_outs}
use Rattle.ds_schema.specs.declared.key.Key.{Key}
use Rattle.ds_schema.specs.Rows.{row_cmp}
use Rattle.op_base.specs.declared.fault.Fault.{Fault}
use Rattle.op_base.specs.Columns.{Row}
use Rattle.op_base.specs.Keyed.{arranged}
use Rattle.op_base.specs.Lists.{ties, last_one}
use Rattle.op_base.specs.Standing.{RowStream}
use Rattle.op_order.specs.declared.marked.Marked.{Marked}
use Rattle.op_order.specs.Marks.{AreMarked, rows_in}

-- all rows arranged by the keys, at End
abbrev pub tsort_stream : List Key → RowStream
tsort_stream keys = at_end (λ rows. map (sends 0) (arranged keys rows))

-- rows of one key value
abbrev pub same_key : List Key → Row → Row → Bool
same_key keys r s = ties (row_cmp keys) r s

-- the first row of each run at once, or the last of each once it is complete
abbrev pub run_row : List Key → Bool → List Row → Item Row → List (Out Row Fault)
run_row keys false before item = remdup_outs (same_key keys) before item
run_row keys true before item = run_outs (same_key keys) last_outs before item

abbrev pub remdup_stream : List Key → Bool → RowStream
remdup_stream keys last = record { ports = 1; wants = one_wanted; gives = λ feeds f. run_row keys last (rows_of 0 feeds) f.item }

-- until its port ends a Tsort has all rows that it was fed, with their marks
pub record TsortStands (keys : List Key) (over : Bool) (rows : List Marked) (feeds : List (Feed Row)) : Type 0 where
  pub over_is : over ≡ ended 0 feeds
  pub rows_are : over ≡ false → rows_in rows ≡ rows_of 0 feeds
  pub marked : AreMarked keys rows

-- until its port ends a Remdup has the newest row
pub record RemdupStands (over : Bool) (newest : Option Row) (feeds : List (Feed Row)) : Type 0 where
  pub over_is : over ≡ ended 0 feeds
  pub newest_is : over ≡ false → option_to_list newest ≡ last_one (rows_of 0 feeds)

-- what a row gives after the newest before it
abbrev pub row_gain : List Key → Bool → Option Row → Row → List (Out Row Fault)
row_gain keys last None r = if last then [] else sends 0 r ∷ []
row_gain keys last (Some old) r = if same_key keys old r then [] else sends 0 (if last then old else r) ∷ []

-- what End gives after the newest row
abbrev pub end_gain : Bool → Option Row → List (Out Row Fault)
end_gain last None = []
end_gain last (Some old) = if last then sends 0 old ∷ [] else []
