use Rattle.std.proofs.Common.{◌∙◌, ◌<◌, sym, subst, length-set}
use Rattle.run_ports.proofs.Feeding.{picked_open, items_open, may_feed, taken_first, feeds_more, has_fed}
use Rattle.run_ports.proofs.run.feed_lists.Goals as goal

pub index_mut-requires : goal.index_mut-requires
index_mut-requires g c =
    let ports = c.requires.ports ∙ sym c.loop-port.invariant.count in
    subst (λ n. c.in-Some.port < n) (sym c.loop-port.inputs.ok.0)
    (picked_open _ (g.met.O.Operator.is_stream c.args.op.now) _ _ _ _ _ ports c.loop-port.invariant.feeding _ _ c.loop-port.invariant.stream _ c.deref.ensures.value c.in-Some.ensures).0

pub feed_next-requires-clause-open : goal.feed_next-requires-clause-open
feed_next-requires-clause-open g c =
    let ports = c.requires.ports ∙ sym c.loop-port.invariant.count in
    items_open _ (g.met.O.Operator.is_stream c.args.op.now) _ _ _ _ _ ports c.loop-port.invariant.feeding _ _ c.loop-port.invariant.stream _ c.deref.ensures.value c.in-Some.ensures _ c.index_mut.ensures.value

pub feed_next-requires-clause-may : goal.feed_next-requires-clause-may
feed_next-requires-clause-may g c =
    let ports = c.requires.ports ∙ sym c.loop-port.invariant.count in
    may_feed _ (g.met.O.Operator.is_stream c.args.op.now) _ _ _ _ _ ports c.loop-port.invariant.feeding _ _ c.loop-port.invariant.stream _ c.deref.ensures.value c.in-Some.ensures _ c.index_mut.ensures.value _ _ c.loop-port.invariant.suits c.requires.suits

pub loop-port-smaller : goal.loop-port-smaller
loop-port-smaller g c =
    let ports = c.requires.ports ∙ sym c.loop-port.invariant.count in
    let there = picked_open _ (g.met.O.Operator.is_stream c.args.op.now) _ _ _ _ _ ports c.loop-port.invariant.feeding _ _ c.loop-port.invariant.stream _ c.deref.ensures.value c.in-Some.ensures in
    taken_first _ _ _ _ _ _ _ _ _ there.0 c.index_mut.ensures.value c.in_ok-feed_next.ensures.fed

pub loop-port-preserved : goal.loop-port-preserved
loop-port-preserved g c =
    let ports = c.requires.ports ∙ sym c.loop-port.invariant.count in
    record {
      stream = c.in_ok-feed_next.ensures.stream ∙ c.loop-port.invariant.stream;
      suits = c.in_ok-feed_next.ensures.suits ∙ c.loop-port.invariant.suits;
      count = length-set c.loop-port.inputs.items c.in-Some.port c.feed_next.new.input ∙ c.loop-port.invariant.count;
      feeding = feeds_more _ (g.met.O.Operator.is_stream c.args.op.now) _ _ _ _ _ ports c.loop-port.invariant.feeding _ _ c.loop-port.invariant.stream _ c.deref.ensures.value c.in-Some.ensures _ c.index_mut.ensures.value _ _ _ c.in_ok-feed_next.ensures.fed;
    }

pub returns-clause-fed : goal.returns-clause-fed
returns-clause-fed g c = has_fed _ _ (g.met.O.Operator.is_stream c.args.op.now) _ _ _ _ _ _ (c.requires.ports ∙ sym c.loop-port.invariant.count) c.loop-port.invariant.feeding c.loop-port.invariant.stream c.deref.ensures.value c.in_default.ensures
