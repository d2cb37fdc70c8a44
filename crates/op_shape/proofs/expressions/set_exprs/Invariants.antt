use Rattle.std.proofs.Common.{◌≡◌, map, take}
use Rattle.flow_graph.specs.declared.op_kind.SetSpec.{SetSpec}
use Rattle.op_shape.specs.Exprs.{expr_over}
use Rattle.op_shape.proofs.expressions.set_exprs.Given as goal

abbrev pub invariant-loop-set : goal.invariant-loop-set
invariant-loop-set l = l.exprs ≡ map (λ (s : SetSpec). expr_over l.schema s.expr) (take l.set-index l.sets)
