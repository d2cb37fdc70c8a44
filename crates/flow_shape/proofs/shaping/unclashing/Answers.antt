use Rattle.std.proofs.Common.{refl, inr}
use Rattle.flow_shape.proofs.Fitting.{all_fit}
use Rattle.flow_shape.proofs.shaping.unclashing.Goals as goal

pub returns-in-Some-clause-bad : goal.returns-in-Some-clause-bad
returns-in-Some-clause-bad c =
    let fit = all_fit c.args.flow.now c.in_ok-schemas.schemas.items c.args.order.now c.requires.order c.requires.within c.requires.acyclic c.in_ok-schemas.ensures.each_link c.in_ok-schemas.ensures.fit in
    inr (inr (inr (refl, c.requires.ports, c.requires.acyclic, (c.in_ok-schemas.schemas.items, fit), c.in-Some.ensures.found)))

pub returns-in-None-clause-fit : goal.returns-in-None-clause-fit
returns-in-None-clause-fit c = all_fit c.args.flow.now c.in_ok-schemas.schemas.items c.args.order.now c.requires.order c.requires.within c.requires.acyclic c.in_ok-schemas.ensures.each_link c.in_ok-schemas.ensures.fit
