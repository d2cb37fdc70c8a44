use Rattle.schema_faults.proofs.FirstFaults.{faulty_is_none, one_first_fault}
use Rattle.schema_faults.proofs.one_first_fault.Goals as goal

pub returns-clause-none : goal.returns-clause-none
returns-clause-none c = faulty_is_none

pub returns-clause-one : goal.returns-clause-one
returns-clause-one c = one_first_fault
