use Rattle.std.proofs.Common.{◌≡◌}
use Rattle.list_run.specs.Fed.{sent_rows}
use Rattle.list_run.proofs.whole.into_rows.Given as goal

abbrev pub invariant-loop-one : goal.invariant-loop-one
invariant-loop-one l = l.rows ≡ sent_rows l.yielded
