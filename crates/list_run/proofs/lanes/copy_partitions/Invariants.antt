use Rattle.std.proofs.Common.{◌≡◌, take}
use Rattle.list_run.proofs.lanes.copy_partitions.Given as goal

abbrev pub invariant-loop-rows : goal.invariant-loop-rows
invariant-loop-rows l = l.copies ≡ take l.rows-index l.rows-items
