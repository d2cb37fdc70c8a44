use Rattle.std.proofs.Common.{◌≡◌, length}
use Rattle.ds_schema.specs.ColumnReading.{new_name_at, more_at, names_at}
use Rattle.ds_schema.proofs.column_lists.reading.parse_names.Given as goal

-- what is left is read as all is
abbrev pub invariant-loop-alloc : goal.invariant-loop-alloc
invariant-loop-alloc g l = more_at (new_name_at l.why) l.names.items l.cursor ≡ names_at l.why l.fn.cursor

abbrev pub decreases-loop-alloc : goal.decreases-loop-alloc
decreases-loop-alloc g l = length l.cursor
