use Rattle.op_base.specs.Standing.{end_feed}
use Rattle.intake.proofs.Passing.{may_hand}
use Rattle.intake.proofs.feeding.end_one.Goals as goal

pub hand_on-requires : goal.hand_on-requires
hand_on-requires g c = may_hand _ _ _ (end_feed c.args.slot) c.new-inner.result _ c.new-inner.ensures _ _ _ _ c.requires c.in_ok-end.ensures.emits
