use Rattle.std.proofs.Common.{arith}
use Rattle.op_collect.proofs.Standing.{ordered_wants, ordered_done}
use Rattle.op_collect.proofs.in_order.OrderedOperator.wants.Goals as goal

pub returns-then-self : goal.returns-then-self
returns-then-self c = λ feeds stands. ordered_wants c.args.self.now.ports c.args.self.now.turn c.args.self.now.some (omega (arith, c.if-self.true)) feeds stands

pub returns-else-self : goal.returns-else-self
returns-else-self c = λ feeds stands. ordered_done c.args.self.now.ports c.args.self.now.turn (omega (arith, c.if-self.false)) feeds stands
