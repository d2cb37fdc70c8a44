use Rattle.op_base.proofs.StandingLaws.{one_port_fed}
use Rattle.op_order.proofs.Standing.{TsortStands-row}
use Rattle.op_order.proofs.sorter.TsortOperator.feed.Goals as goal

pub returns-clause-stands : goal.returns-clause-stands
returns-clause-stands c = λ feeds stands.
    TsortStands-row _ _ _ _ c.mark_row.result feeds c.args._port _ (one_port_fed c.requires.feeds c.args._port c.requires.wanted) c.in_ok-push.ensures.items c.mark_row.ensures.row c.mark_row.ensures.mark stands
