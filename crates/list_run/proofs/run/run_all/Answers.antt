use Rattle.std.proofs.Common.{◌<◌, subst, sym, length, get_or, ℕ, List, []}
use Rattle.flow_graph.specs.Charts.{op_at}
use Rattle.list_run.specs.Held.{CameFits, MaySend, Steps, sent_on, waits}
use Rattle.list_run.specs.Runnable.{IsBuilt}
use Rattle.list_run.proofs.Ordered.{at_place, order_below}
use Rattle.list_run.proofs.Standing.{came_fits, may_send, stands_next}
use Rattle.list_run.proofs.run.run_all.Goals as goal

pub run_operator-requires-clause-op : goal.run_operator-requires-clause-op
run_operator-requires-clause-op c =
    let chart = c.args.shaped.now in
    let m = subst (λ (xs : List ℕ). c.loop-op.op-index < length xs) c.order-op-items.ensures c.loop-op-test.true in
    subst (λ (xs : List ℕ). get_or xs c.loop-op.op-index 0 < length chart.flow.ops) (sym c.order-op-items.ensures) (at_place (λ o. o < length chart.flow.ops) chart.order c.loop-op.op-index m (order_below chart c.requires.runs.shape.order))

pub run_operator-requires-clause-built : goal.run_operator-requires-clause-built
run_operator-requires-clause-built c =
    let chart = c.args.shaped.now in
    let m = subst (λ (xs : List ℕ). c.loop-op.op-index < length xs) c.order-op-items.ensures c.loop-op-test.true in
    subst (λ (xs : List ℕ). IsBuilt chart (get_or xs c.loop-op.op-index 0) (op_at chart (get_or xs c.loop-op.op-index 0)).kind) (sym c.order-op-items.ensures)
    (c.requires.runs.run.built (get_or chart.order c.loop-op.op-index 0) (at_place (λ o. o < length chart.flow.ops) chart.order c.loop-op.op-index m (order_below chart c.requires.runs.shape.order)))

pub run_operator-requires-clause-may : goal.run_operator-requires-clause-may
run_operator-requires-clause-may c =
    let chart = c.args.shaped.now in
    let i = c.loop-op.op-index in
    let m = subst (λ (xs : List ℕ). i < length xs) c.order-op-items.ensures c.loop-op-test.true in
    subst (λ (xs : List ℕ). MaySend chart c.args.nodes (get_or xs i 0) (sent_on chart (waits c.loop-op.held) (λ j. get_or c.loop-op.sources.items j []))) (sym c.order-op-items.ensures)
    (may_send chart c.args.choices.now c.args.nodes c.args.sources.now.items i c.loop-op.sources.items c.loop-op.held c.requires.runs m c.loop-op.invariant)

pub run_operator-requires-clause-fits : goal.run_operator-requires-clause-fits
run_operator-requires-clause-fits c =
    let chart = c.args.shaped.now in
    let i = c.loop-op.op-index in
    let m = subst (λ (xs : List ℕ). i < length xs) c.order-op-items.ensures c.loop-op-test.true in
    subst (λ (xs : List ℕ). CameFits chart (get_or xs i 0) (waits c.loop-op.held)) (sym c.order-op-items.ensures)
    (came_fits chart c.args.choices.now c.args.nodes c.args.sources.now.items i c.loop-op.sources.items c.loop-op.held c.requires.runs m c.loop-op.invariant)

pub loop-op-preserved : goal.loop-op-preserved
loop-op-preserved c =
    let chart = c.args.shaped.now in
    let i = c.loop-op.op-index in
    let m = subst (λ (xs : List ℕ). i < length xs) c.order-op-items.ensures c.loop-op-test.true in
    let b = at_place (λ o. o < length chart.flow.ops) chart.order i m (order_below chart c.requires.runs.shape.order) in
    stands_next chart c.args.choices.now c.args.nodes c.args.sources.now.items i c.loop-op.sources.items c.run_operator.new.sources.items c.loop-op.held c.run_operator.new.held c.requires.runs m b c.loop-op.invariant
    (subst (λ (xs : List ℕ). Steps chart c.args.nodes (get_or xs i 0) c.loop-op.sources.items c.run_operator.new.sources.items c.loop-op.held c.run_operator.new.held) c.order-op-items.ensures c.in_ok-run_operator.ensures)
