use Rattle.std.proofs.Common.{length}
use Rattle.expr_table.proofs.scale.+greater_scale.Given as goal

abbrev pub decreases-greater_scale : goal.decreases-greater_scale
decreases-greater_scale l = length l.scales.now
