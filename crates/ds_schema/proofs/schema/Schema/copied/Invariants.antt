use Rattle.std.proofs.Common.{◌≡◌, take}
use Rattle.ds_schema.proofs.schema.Schema.copied.Given as goal

abbrev pub invariant-loop-field : goal.invariant-loop-field
invariant-loop-field l = l.copies.items ≡ take l.field-index l.field-items
