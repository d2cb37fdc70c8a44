use Rattle.std.proofs.Common.{length, sym, ◌∙◌, refl}
use Rattle.flow_shape.proofs.Steps.{place_in, alone_by, fit_more, fault_at}
use Rattle.flow_shape.proofs.typing.typed.Goals as goal

pub operator_cause-requires-clause-op : goal.operator_cause-requires-clause-op
operator_cause-requires-clause-op c = (place_in (length c.args.flow.now.ops) c.loop-op.op-index 0 c.args.flow.now.links c.args.order.now c.requires.order c.loop-op-test.true).within

pub returns-in-Some-clause-bad : goal.returns-in-Some-clause-bad
returns-in-Some-clause-bad c =
    fault_at c.args.flow.now c.loop-op.schemas.items c.args.order.now c.loop-op.op-index 0 c.in-Some.why c.requires.order c.loop-op-test.true
    (rw (← c.as_slice-in-loop-op.ensures.value) (sym c.in_ok-why.ensures ∙ c.in-Some.is)) c.loop-op.invariant.fit

pub give-requires-clause-sound : goal.give-requires-clause-sound
give-requires-clause-sound c = rw (← c.as_slice-in-loop-op.ensures.value) (sym c.in_ok-why.ensures ∙ c.in_default.is)

pub give-requires-clause-alone : goal.give-requires-clause-alone
give-requires-clause-alone c =
    alone_by _ (length c.args.flow.now.ops) c.args.flow.now.links _ _ refl
    (place_in (length c.args.flow.now.ops) c.loop-op.op-index 0 c.args.flow.now.links c.args.order.now c.requires.order c.loop-op-test.true)

pub loop-op-preserved : goal.loop-op-preserved
loop-op-preserved c = record {
  len = c.in_ok-give.ensures.len ∙ c.loop-op.invariant.len;
  fit = fit_more c.args.flow.now c.loop-op.schemas.items c.give.new.schemas.items c.args.order.now c.loop-op.op-index 0 c.requires.order c.loop-op-test.true
      (rw (← c.as_slice-in-loop-op.ensures.value) (sym c.in_ok-why.ensures ∙ c.in_default.is)) c.in_ok-give.ensures c.loop-op.invariant.fit;
}
