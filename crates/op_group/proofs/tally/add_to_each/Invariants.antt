use Rattle.op_group.specs.Kept.{FollowTo}
use Rattle.op_group.proofs.tally.add_to_each.Given as goal

abbrev pub invariant-loop-kept : goal.invariant-loop-kept
invariant-loop-kept l = FollowTo l.before l.row l.kept-index l.fn.running l.running
