use Rattle.op_base.specs.Standing.{row_feed}
use Rattle.intake.proofs.Passing.{may_hand, passes_on, row_goes_on}
use Rattle.intake.proofs.feeding.feed_one.Goals as goal

pub hand_on-requires : goal.hand_on-requires
hand_on-requires g c = may_hand _ _ _ (row_feed c.args.slot c.args.row) c.new-inner.result _ c.new-inner.ensures _ _ _ _ c.requires c.in_ok-feed.ensures.emits

pub returns-clause-passes : goal.returns-clause-passes
returns-clause-passes g c =
    passes_on (g.O.Operator.stream c.args.op.now) (g.C.Operator.stream c.args.collector.now) c.args.port (row_feed c.args.slot c.args.row) c.new-inner.result _ c.new-inner.ensures
    (g.O.Operator.Stands c.args.op.now) (g.O.Operator.Stands c.hand_on.new.op) (g.C.Operator.Stands c.args.collector.now) (g.C.Operator.Stands c.feed.new.self) _ _
    c.in_ok-feed.ensures.stands c.in_ok-feed.ensures.emits c.in_ok-hand_on.ensures.hands (λ done is fed wants col. row_goes_on _ is c.args.slot c.args.row done wants)
