use Rattle.std.proofs.Common.{◌<◌, arith, ap, sym, subst, length}
use Rattle.flow_shape.specs.Links.{OnCycle}
use Rattle.flow_shape.proofs.Stuck.{below_more}
use Rattle.flow_shape.proofs.cycle.lowest_on_cycle.Goals as goal

pub loop-op-preserved : goal.loop-op-preserved
loop-op-preserved c = below_more (OnCycle c.args.flow.now.links) c.loop-op.op c.loop-op.invariant (λ cycle. c.in_ok-is_on_cycle.ensures.no c.if-branch.false (subst (λ ls. OnCycle ls c.loop-op.op) (sym c.as_slice-in-loop-op.ensures) cycle))

pub returns-clause-none : goal.returns-clause-none
returns-clause-none c = λ j h cycle. let within : j < c.loop-op.op = omega (arith, h, c.loop-op-test.false, ap length c.as_slice.ensures) in c.loop-op.invariant j within cycle
