use Rattle.std.proofs.Common.{◌≡◌, ◌++◌}
use Rattle.list_run.proofs.lanes.append_rows.Given as goal

abbrev pub invariant-loop-row : goal.invariant-loop-row
invariant-loop-row l = l.into ≡ l.fn.into ++ l.yielded
