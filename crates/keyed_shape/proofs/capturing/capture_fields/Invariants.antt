use Rattle.std.proofs.Common.{◌≡◌, take}
use Rattle.keyed_shape.proofs.capturing.capture_fields.Given as goal

abbrev pub invariant-loop-field : goal.invariant-loop-field
invariant-loop-field l = l.made.items ≡ take l.field-index l.fields
