use Rattle.expr_read.proofs.Wholes.{one_is_spelled}
use Rattle.expr_read.proofs.OneAnswer.{faulty_is_none, one_first_fault}
use Rattle.expr_read.proofs.laws.one_answer.Goals as goal

pub returns-clause-expression : goal.returns-clause-expression
returns-clause-expression c = one_is_spelled

pub returns-clause-none : goal.returns-clause-none
returns-clause-none c = faulty_is_none

pub returns-clause-fault : goal.returns-clause-fault
returns-clause-fault c = one_first_fault
