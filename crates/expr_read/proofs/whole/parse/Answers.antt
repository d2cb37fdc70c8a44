use Rattle.expr_read.proofs.Firsts.{answer_first}
use Rattle.expr_read.proofs.Wholes.{answer_spelled, answer_none}
use Rattle.expr_read.proofs.whole.parse.Goals as goal

pub returns-clause-spelled : goal.returns-clause-spelled
returns-clause-spelled c = answer_spelled _ _ c.read.ensures

pub returns-clause-first_fault : goal.returns-clause-first_fault
returns-clause-first_fault c = answer_first _ _ c.read.ensures

pub returns-clause-none : goal.returns-clause-none
returns-clause-none c = answer_none _ _ c.read.ensures
