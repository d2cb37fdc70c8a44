use Rattle.std.proofs.Common.{not, ap, sym, ◌∙◌}
use Rattle.flow_shape.specs.Ports.{WrongPorts}
use Rattle.flow_shape.proofs.Stuck.{below_more}
use Rattle.flow_shape.proofs.ports.lowest_wrong_ports.Goals as goal

pub loop-op-preserved : goal.loop-op-preserved
loop-op-preserved c = below_more (WrongPorts c.args.flow.now) c.loop-op.op c.loop-op.invariant
    (λ w. cc (sym c.if-has_wrong_ports.false ∙ (c.has_wrong_ports.ensures ∙ ap not w)))
