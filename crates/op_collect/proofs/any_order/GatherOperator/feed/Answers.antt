use Rattle.op_collect.proofs.Standing.{gather_row}
use Rattle.op_collect.proofs.any_order.GatherOperator.feed.Goals as goal

pub returns-clause-stands : goal.returns-clause-stands
returns-clause-stands c = λ feeds stands. gather_row c.args.self.now.over.items feeds c.args._port c.args.row stands
