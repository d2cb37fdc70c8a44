use Rattle.ds_schema.proofs.FieldNames.{field_name, name_of_field}
use Rattle.ds_schema.proofs.schema_text.fields.owned_name.Goals as goal

pub unreachable-requires : goal.unreachable-requires
unreachable-requires c = (rw c.in-Ok-None.field-0-is at c.in-Ok-None.ensures) (name_of_field c.args.bytes.now (field_name c.args.bytes.now c.requires))
