use Rattle.std.proofs.Common.{◌≡◌, drop}
use Rattle.shape_base.specs.Causes.{first_cause}
use Rattle.op_shape.specs.Exprs.{set_causes}
use Rattle.op_shape.proofs.expressions.set_causes.Given as goal

abbrev pub invariant-loop-set : goal.invariant-loop-set
invariant-loop-set l = first_cause (set_causes l.schema (drop l.set-index l.sets)) ≡ first_cause (set_causes l.schema l.sets)
