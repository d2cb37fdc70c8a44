use Rattle.std.proofs.Common.{◌≡◌, ◌++◌}
use Rattle.op_group.proofs.giving.joined.Given as goal

abbrev pub invariant-loop-value : goal.invariant-loop-value
invariant-loop-value l = l.joined.items ≡ l.fn.values ++ l.yielded
