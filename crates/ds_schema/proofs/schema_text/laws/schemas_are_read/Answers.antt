use Rattle.ds_schema.proofs.SchemaTexts.{text_is_spelled, spelled_text}
use Rattle.ds_schema.proofs.schema_text.laws.schemas_are_read.Goals as goal

pub returns-clause-read : goal.returns-clause-read
returns-clause-read c = text_is_spelled

pub returns-clause-spelled : goal.returns-clause-spelled
returns-clause-spelled c = spelled_text
