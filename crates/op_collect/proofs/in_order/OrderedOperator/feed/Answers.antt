use Rattle.op_collect.proofs.Standing.{ordered_row}
use Rattle.op_collect.proofs.in_order.OrderedOperator.feed.Goals as goal

pub returns-clause-stands : goal.returns-clause-stands
returns-clause-stands c = λ feeds stands. ordered_row c.args.self.now.turn feeds c.args._port c.args.row stands
