use Rattle.std.proofs.Common.{length}
use Rattle.keyed_shape.proofs.alike.+all_have_keys.Given as goal

abbrev pub decreases-all_have_keys : goal.decreases-all_have_keys
decreases-all_have_keys l = length l.ins.now
