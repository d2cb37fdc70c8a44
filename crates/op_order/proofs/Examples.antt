-- Sorting and the removal of duplicates as they are fed, and the numbers of rows, computed; wrong results are refused.
use Rattle.std.proofs.Common.{◌≡◌, ◌≢◌, ◌+◌, ◌-◌, ◌^◌, ℕ, Bool, true, false, List, [], ◌∷◌, refl, pos, map, codes}
use Rattle.std.specs.Prelude.{nat_lt}
use Rattle.streams.specs.Streams.{Out, sends, emits}
use Rattle.ds_value.specs.declared.value.Value.TheVariants.{Null, Int, Text}
use Rattle.ds_schema.specs.declared.key.Key.{Key}
use Rattle.op_base.specs.declared.fault.Fault.{Fault}
use Rattle.op_base.specs.Columns.{Row}
use Rattle.op_base.specs.WholeLists.{row_feeds, list_feeds}
use Rattle.op_order.specs.Ordered.{tsort_stream, remdup_stream}
use Rattle.op_order.specs.Marks.{key_mark, value_mark}

abbrev row : ℕ → ℕ → Row
row a b = Int (pos a) ∷ (Int (pos b) ∷ [])

abbrev null_row : ℕ → Row
null_row b = Null ∷ (Int (pos b) ∷ [])

abbrev by_first : Bool → List Key
by_first desc = record { col = 0; desc = desc } ∷ []

abbrev sent : List Row → List (Out Row Fault)
sent rows = map (sends 0) rows

abbrev mixed : List Row
mixed = row 2 0 ∷ (null_row 1 ∷ (row 2 2 ∷ (row 1 3 ∷ [])))

ascending : emits (tsort_stream (by_first false)) (list_feeds mixed) ≡ sent (null_row 1 ∷ (row 1 3 ∷ (row 2 0 ∷ (row 2 2 ∷ []))))
ascending = refl

descending : emits (tsort_stream (by_first true)) (list_feeds mixed) ≡ sent (row 2 0 ∷ (row 2 2 ∷ (row 1 3 ∷ (null_row 1 ∷ []))))
descending = refl

ties_stay : emits (tsort_stream (by_first true)) (list_feeds mixed) ≢ sent (row 2 2 ∷ (row 2 0 ∷ (row 1 3 ∷ (null_row 1 ∷ []))))
ties_stay e = cc

no_key : emits (tsort_stream []) (list_feeds mixed) ≡ sent mixed
no_key = refl

-- nothing before the end
waits : emits (tsort_stream (by_first false)) (row_feeds mixed) ≡ []
waits = refl

abbrev arranged : List Row
arranged = null_row 0 ∷ (null_row 1 ∷ (row 1 2 ∷ (row 2 3 ∷ (row 2 4 ∷ []))))

firsts : emits (remdup_stream (by_first false) false) (list_feeds arranged) ≡ sent (null_row 0 ∷ (row 1 2 ∷ (row 2 3 ∷ [])))
firsts = refl

-- at once
firsts_before_end : emits (remdup_stream (by_first false) false) (row_feeds arranged) ≡ sent (null_row 0 ∷ (row 1 2 ∷ (row 2 3 ∷ [])))
firsts_before_end = refl

lasts : emits (remdup_stream (by_first false) true) (list_feeds arranged) ≡ sent (null_row 1 ∷ (row 1 2 ∷ (row 2 4 ∷ [])))
lasts = refl

-- the last run may still grow
lasts_before_end : emits (remdup_stream (by_first false) true) (row_feeds arranged) ≡ sent (null_row 1 ∷ (row 1 2 ∷ []))
lasts_before_end = refl

not_last_for_first : emits (remdup_stream (by_first false) false) (list_feeds arranged) ≢ sent (null_row 1 ∷ (row 1 2 ∷ (row 2 4 ∷ [])))
not_last_for_first e = cc

one_of_all : emits (remdup_stream [] true) (list_feeds arranged) ≡ sent (row 2 4 ∷ [])
one_of_all = refl

-- a value that comes again begins another run
runs : emits (remdup_stream (by_first false) false) (list_feeds mixed) ≡ sent mixed
runs = refl

null_mark : key_mark (by_first false) (null_row 0) ≡ 0
null_mark = refl

turned_mark : key_mark (by_first true) (null_row 0) ≡ 2 ^ 64 - 1
turned_mark = refl

zero_mark : key_mark (by_first false) (row 0 0) ≡ 2 ^ 61 + 2 ^ 60
zero_mark = refl

-- texts of the same first seven bytes are not told apart
long_texts : value_mark (Text (codes "abcdefgz")) ≡ value_mark (Text (codes "abcdefg"))
long_texts = refl

texts_differ : nat_lt (value_mark (Text (codes "abcdef"))) (value_mark (Text (codes "abcdefg"))) ≡ true
texts_differ = refl

-- a number past the greatest that is marked exactly is not told from another
far_numbers : value_mark (Int (pos (2 ^ 62))) ≡ value_mark (Int (pos (2 ^ 61)))
far_numbers = refl
