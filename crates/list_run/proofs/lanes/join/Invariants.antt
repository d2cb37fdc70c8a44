use Rattle.std.proofs.Common.{◌≡◌}
use Rattle.op_base.specs.Lists.{joined}
use Rattle.list_run.proofs.lanes.join.Given as goal

abbrev pub invariant-loop-rows : goal.invariant-loop-rows
invariant-loop-rows l = l.all ≡ joined l.yielded
