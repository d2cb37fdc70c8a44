use Rattle.ds_schema.proofs.SchemaTexts.{refused_is_none, fault_at}
use Rattle.ds_schema.proofs.schema_text.laws.first_fault.Goals as goal

pub returns-clause-none : goal.returns-clause-none
returns-clause-none c = refused_is_none

pub returns-clause-place : goal.returns-clause-place
returns-clause-place c = fault_at
