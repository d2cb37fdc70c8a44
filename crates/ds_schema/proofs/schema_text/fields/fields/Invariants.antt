use Rattle.std.proofs.Common.{◌≡◌, ◌-◌, []}
use Rattle.ds_schema.specs.SchemaReading.{fields_at}
use Rattle.ds_schema.proofs.schema_text.fields.fields.Given as goal

-- the fields so far and those that are left are read as all are
abbrev pub invariant-loop-count : goal.invariant-loop-count
invariant-loop-count l = fields_at (256 - l._count) l.fields.items l.cursor ≡ fields_at 256 [] l.fn.cursor
