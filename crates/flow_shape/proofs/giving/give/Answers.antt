use Rattle.std.proofs.Common.{arith, ap, length}
use Rattle.flow_shape.proofs.Labels.{given_next, still_sound}
use Rattle.flow_shape.proofs.giving.give.Goals as goal

pub give_one-requires-clause-sound : goal.give_one-requires-clause-sound
give_one-requires-clause-sound c = still_sound c.args.flow.now c.args.schemas.now.items c.loop-link.schemas.items c.args.op c.loop-link.link c.requires.alone c.requires.sound c.loop-link.invariant

pub loop-link-preserved : goal.loop-link-preserved
loop-link-preserved c = given_next c.args.flow.now c.args.schemas.now.items c.loop-link.schemas.items c.give_one.new.schemas.items c.args.op c.loop-link.link (omega (arith, c.loop-link-test.true, ap length c.as_slice-link-end.ensures, c.requires.each_link)) c.requires.alone c.loop-link.invariant c.in_ok-give_one.ensures
