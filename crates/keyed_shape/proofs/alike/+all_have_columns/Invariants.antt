use Rattle.std.proofs.Common.{length}
use Rattle.keyed_shape.proofs.alike.+all_have_columns.Given as goal

abbrev pub decreases-all_have_columns : goal.decreases-all_have_columns
decreases-all_have_columns l = length l.ins.now
