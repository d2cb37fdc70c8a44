use Rattle.config_read.proofs.OneAnswer.{one_configuration, faulty_is_none, one_first_fault}
use Rattle.config_read.proofs.laws.one_answer.Goals as goal

pub returns-clause-configuration : goal.returns-clause-configuration
returns-clause-configuration c = one_configuration

pub returns-clause-none : goal.returns-clause-none
returns-clause-none c = faulty_is_none

pub returns-clause-fault : goal.returns-clause-fault
returns-clause-fault c = one_first_fault
