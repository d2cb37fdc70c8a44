use Rattle.std.proofs.Common.{◌<◌, arith, ap, length}
use Rattle.flow_shape.specs.Files.{Clashes}
use Rattle.flow_shape.proofs.Stuck.{below_more}
use Rattle.flow_shape.proofs.files.lowest_clash.Goals as goal

pub loop-op-preserved : goal.loop-op-preserved
loop-op-preserved c = below_more (Clashes c.args.flow.now.ops) c.loop-op.op c.loop-op.invariant (c.clashes.ensures.no c.if-clashes.false)

pub returns-clause-none : goal.returns-clause-none
returns-clause-none c = λ j h clash.
    let within : j < c.loop-op.op = omega (arith, h, c.loop-op-test.false, ap length c.as_slice.ensures) in
    c.loop-op.invariant j within clash
