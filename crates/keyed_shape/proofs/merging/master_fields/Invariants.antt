use Rattle.std.proofs.Common.{◌≡◌, map, take}
use Rattle.keyed_shape.specs.Matched.{master_field}
use Rattle.keyed_shape.proofs.merging.master_fields.Given as goal

abbrev pub invariant-loop-field : goal.invariant-loop-field
invariant-loop-field l = l.made.items ≡ map (master_field l.key (map (λ s. s.now) l.updates)) (take l.field-index l.master)
