use Rattle.schema_faults.proofs.FirstFaults.{refused_at_first, fault_is_answered}
use Rattle.schema_faults.proofs.first_fault_is_answered.Goals as goal

pub returns-clause-first : goal.returns-clause-first
returns-clause-first c = refused_at_first

pub returns-clause-answered : goal.returns-clause-answered
returns-clause-answered c = fault_is_answered
