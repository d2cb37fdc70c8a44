-- The operators that work row by row, as streams: what a rule makes of each row alone, at once.
use Rattle.std.specs.Prelude.{ℕ, zero, suc, nat_lt, Bool, List, [], ◌++◌, map, length}
use Rattle.std.specs.List.{list_all}
use Rattle.streams.specs.Streams.{Feed, Out, sends, fails, rows_of}
use Rattle.streams.specs.Operators.{rowwise}
use Rattle.op_base.specs.declared.fault.Fault.{Fault}
use Rattle.op_base.specs.Columns.{Row}
use Rattle.op_base.specs.RowOperators.{RowRule, copy_rule, modify_rule}
use Rattle.op_base.specs.Standing.{RowStream}

-- the rows that a rule makes of a row for the first n outputs
abbrev pub to_outputs : RowRule → ℕ → Row → List (Out Row Fault)
to_outputs rule zero r = []
to_outputs rule (suc n) r = to_outputs rule n r ++ map (sends n) (rule.rows n r)

-- and then its faults
abbrev pub made : RowRule → ℕ → Row → List (Out Row Fault)
made rule outs r = to_outputs rule outs r ++ map fails (rule.faults r)

abbrev pub by_row : RowRule → ℕ → RowStream
by_row rule outs = rowwise (made rule outs)

-- each row to each output
abbrev pub copier_stream : ℕ → RowStream
copier_stream outs = by_row copy_rule outs

-- the kept columns, in their order
abbrev pub modify_stream : List ℕ → RowStream
modify_stream cols = by_row (modify_rule cols) 1

-- a test of each row that was fed
abbrev pub each_row : (Row → Bool) → List (Feed Row) → Bool
each_row p feeds = list_all p (rows_of 0 feeds)

-- a row has these columns
abbrev pub has_columns : List ℕ → Row → Bool
has_columns cols r = list_all (λ c. nat_lt c (length r)) cols
