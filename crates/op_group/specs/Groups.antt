-- Groups as streams, and the rows that suit them.
use Rattle.std.specs.Prelude.{◌^◌, nat_lt, ◌==◌, unsigned_abs, Bool, true, false, ◌&&◌, ◌||◌, List, [], ◌∷◌, ◌++◌, map, length}
use Rattle.std.specs.List.{list_all}
use Rattle.streams.specs.Streams.{Feed, Out, sends, fails, rows_of}
use Rattle.streams.specs.Operators.{run_stream, at_end}
use Rattle.ds_value.specs.declared.value.Value.{Value}
use Rattle.ds_value.specs.declared.value.Value.TheVariants.{Null, Int, UInt, Dec, Text, Date}
use Rattle.ds_value.specs.Values.{variant}
use Rattle.ds_schema.specs.declared.key.Key.{Key}
use Rattle.ds_schema.specs.Rows.{at, val, cols, ways, row_cmp}
use Rattle.op_base.specs.declared.fault.Fault.{Fault}
use Rattle.op_base.specs.Columns.{Row, is_short}
use Rattle.op_base.specs.Keyed.{for_values}
use Rattle.op_base.specs.Lists.{ties}
use Rattle.op_base.specs.Meanings.{Grouping, input, group_rows, group_faults}
use Rattle.op_base.specs.Standing.{RowStream}
use Rattle.op_group.specs.declared.agg.Agg.{Agg}
use Rattle.op_group.specs.declared.agg.Agg.TheVariants.{Sum, Count, Min, Max, First, Last}
use Rattle.op_group.specs.Results.{is_null, column, grouping}

-- what the rows of a key value give: a row or a fault
abbrev pub group_outs : Grouping → List Value → List Row → List (Out Row Fault)
group_outs group values rows = map (sends 0) (group_rows group values rows) ++ map fails (group_faults group values rows)

-- rows of one key value
abbrev pub same_key : List Key → Row → Row → Bool
same_key keys r s = ties (row_cmp keys) r s

abbrev pub run_group : List Key → List Agg → List Row → List (Out Row Fault)
run_group keys aggs [] = []
run_group keys aggs (r ∷ rows) = group_outs (grouping keys false aggs) (val (cols keys) r) (r ∷ rows)

-- each run of rows of one key value, once it is complete
abbrev pub sorted_stream : List Key → List Agg → RowStream
sorted_stream keys aggs = run_stream (same_key keys) (run_group keys aggs)

abbrev pub value_groups : List Key → List Agg → List Row → List (Out Row Fault)
value_groups keys aggs rows = for_values true (ways keys) (cols keys ∷ []) (λ v same. group_outs (grouping keys true aggs) v (input 0 same)) (rows ∷ [])

-- each key value in the order of first rows, at End
abbrev pub hashed_stream : List Key → List Agg → RowStream
hashed_stream keys aggs = at_end (value_groups keys aggs)

-- null, or a whole number or a decimal below 10^18
abbrev pub is_summable : Value → Bool
is_summable Null = true
is_summable (Int z) = true
is_summable (UInt n) = true
is_summable (Dec z) = nat_lt (unsigned_abs z) (10 ^ 18)
is_summable (Text b) = false
is_summable (Date z) = false

-- the column is there, and can be summed where it is
abbrev pub agg_suits : Row → Agg → Bool
agg_suits row (Sum col) = nat_lt col (length row) && is_summable (at row col)
agg_suits row Count = true
agg_suits row (Min col) = nat_lt col (length row)
agg_suits row (Max col) = nat_lt col (length row)
agg_suits row (First col) = nat_lt col (length row)
agg_suits row (Last col) = nat_lt col (length row)

abbrev pub row_suits : List Key → List Agg → Row → Bool
row_suits keys aggs row = list_all (λ c. nat_lt c (length row)) (cols keys) && (list_all (agg_suits row) aggs && list_all is_short row)

-- of one variant, but for nulls
abbrev pub alike : Value → Value → Bool
alike v w = is_null v || (is_null w || (variant v == variant w))

-- the values of a summed column are of one variant
abbrev pub sums_alike : List Row → Agg → Bool
sums_alike rows (Sum col) = list_all (λ v. list_all (alike v) (column col rows)) (column col rows)
sums_alike rows Count = true
sums_alike rows (Min col) = true
sums_alike rows (Max col) = true
sums_alike rows (First col) = true
sums_alike rows (Last col) = true

abbrev pub group_suits : List Key → List Agg → List (Feed Row) → Bool
group_suits keys aggs feeds = list_all (row_suits keys aggs) (rows_of 0 feeds) && list_all (sums_alike (rows_of 0 feeds)) aggs
