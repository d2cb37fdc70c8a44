use Rattle.std.proofs.Common.{◌≡◌, length}
use Rattle.config_read.specs.Reading.{entries_at}
use Rattle.config_read.proofs.entry.entries.Given as goal

abbrev pub invariant-loop-alloc : goal.invariant-loop-alloc
invariant-loop-alloc l = entries_at l.node l.cursor ≡ entries_at l.fn.node l.fn.cursor

abbrev pub decreases-loop-alloc : goal.decreases-loop-alloc
decreases-loop-alloc l = length l.cursor
