use Rattle.std.proofs.Common.{◌≡◌, Ok}
use Rattle.ds_schema.specs.SchemaReading.{schema_at}
use Rattle.ds_schema.proofs.SchemaReaders.{read_is_schema}
use Rattle.ds_schema.proofs.schema_text.fields.parse_schema.Goals as goal

pub from_vec-requires : goal.from_vec-requires
unfolding schema_at
from_vec-requires c =
    let read : schema_at c.args.cursor.now ≡ Ok (c.in_ok-fields.fields, c.fields.new.cursor) = rw (← c.in_ok-expect.ensures.read, ← c.in_ok-expect-2.ensures.read) c.in_ok-fields.ensures in
    rw c.into_vec.ensures (read_is_schema c.args.cursor.now c.fields.new.cursor c.in_ok-fields.fields read)
