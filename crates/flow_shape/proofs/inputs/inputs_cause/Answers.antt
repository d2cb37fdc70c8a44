use Rattle.std.proofs.Common.{arith, ap, sym, length}
use Rattle.flow_shape.proofs.Entries.{cause_at, cause_none}
use Rattle.flow_shape.proofs.inputs.inputs_cause.Goals as goal

pub returns-in-Some : goal.returns-in-Some
returns-in-Some c = cause_at c.args.flow.now c.args.schemas.now c.args.op c.loop-link.link c.in-Some.why (omega (arith, c.loop-link-test.true, ap length c.as_slice-link-end.ensures)) (sym c.in-Some.ensures) c.loop-link.invariant

pub returns : goal.returns
returns c = cause_none c.args.flow.now c.args.schemas.now c.args.op c.loop-link.link (omega (arith, c.loop-link-test.false, ap length c.as_slice-link-end.ensures)) c.loop-link.invariant
