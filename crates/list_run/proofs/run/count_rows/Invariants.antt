use Rattle.std.proofs.Common.{◌≡◌, take}
use Rattle.list_run.specs.Runnable.{row_count}
use Rattle.list_run.proofs.run.count_rows.Given as goal

abbrev pub invariant-loop-rows : goal.invariant-loop-rows
invariant-loop-rows l = l.count ≡ row_count (take l.rows-index l.rows-items)
