use Rattle.std.proofs.Common.{sym, ◌∙◌}
use Rattle.op_join.proofs.Standing.{wants_left, wants_none, wants_right}
use Rattle.op_join.proofs.joiner.JoinOperator.wants.Goals as goal

pub returns-then-not-is_complete : goal.returns-then-not-is_complete
returns-then-not-is_complete c = λ feeds stands. wants_left c.args.self.now.layout c.args.self.now.left c.args.self.now.right feeds stands (sym c.is_complete.ensures ∙ c.if-not-is_complete.true)

pub returns-then-not-is_complete-2 : goal.returns-then-not-is_complete-2
returns-then-not-is_complete-2 c = λ feeds stands. wants_right c.args.self.now.layout c.args.self.now.left c.args.self.now.right feeds stands (sym c.is_complete.ensures ∙ c.if-not-is_complete.false) (sym c.is_complete-else-not-is_complete.ensures ∙ c.if-not-is_complete-2.true)

pub returns-else-not-is_complete-2 : goal.returns-else-not-is_complete-2
returns-else-not-is_complete-2 c = λ feeds stands. wants_none c.args.self.now.layout c.args.self.now.left c.args.self.now.right feeds stands (sym c.is_complete.ensures ∙ c.if-not-is_complete.false) (sym c.is_complete-else-not-is_complete.ensures ∙ c.if-not-is_complete-2.false)
