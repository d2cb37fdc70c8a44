use Rattle.ds_schema.proofs.SchemaPrinted.{reads_back}
use Rattle.ds_schema.proofs.schema_text.laws.printed_reads_back.Goals as goal

pub returns : goal.returns
returns c = reads_back
