use Rattle.std.proofs.Common.{◌≡◌, ℕ, Bool, List, map, take}
use Rattle.keyed_shape.specs.Keyed.{field_named}
use Rattle.keyed_shape.proofs.grouping.key_fields.Given as goal

abbrev pub invariant-loop-name : goal.invariant-loop-name
invariant-loop-name l = l.made.items ≡ map (λ (k : List ℕ × Bool). field_named l.fields (k.0)) (take l.name-index l.key)
