use Rattle.std.proofs.Common.{length}
use Rattle.keyed_shape.proofs.merging.+any_nullable.Given as goal

abbrev pub decreases-any_nullable : goal.decreases-any_nullable
decreases-any_nullable l = length l.ins.now
