use Rattle.std.proofs.Common.{◌≡◌, ◌++◌, drop}
use Rattle.std.specs.Prelude.{codes}
use Rattle.std.specs.List.{flat_map}
use Rattle.ds_schema.specs.SchemaText.{field_text}
use Rattle.ds_schema.proofs.schema_text.printing.print_schema.Given as goal

-- the text so far and the fields that are left are the text of all
abbrev pub invariant-loop-field : goal.invariant-loop-field
invariant-loop-field l = l.text ++ flat_map field_text (drop l.field-index l.field-items) ≡ codes "record ( " ++ flat_map field_text l.schema
