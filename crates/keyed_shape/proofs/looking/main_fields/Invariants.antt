use Rattle.std.proofs.Common.{◌≡◌, map, take}
use Rattle.keyed_shape.specs.Keyed.{main_field}
use Rattle.keyed_shape.proofs.looking.main_fields.Given as goal

abbrev pub invariant-loop-field : goal.invariant-loop-field
invariant-loop-field l = l.made.items ≡ map (main_field l.key l.reference) (take l.field-index l.main)
