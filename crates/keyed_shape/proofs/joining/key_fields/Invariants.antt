use Rattle.std.proofs.Common.{◌≡◌, ℕ, Bool, List, map, take}
use Rattle.keyed_shape.specs.Keyed.{joined_key}
use Rattle.keyed_shape.proofs.joining.key_fields.Given as goal

abbrev pub invariant-loop-name : goal.invariant-loop-name
invariant-loop-name l = l.made.items ≡ map (λ (k : List ℕ × Bool). joined_key l.left l.right (k.0)) (take l.name-index l.key)
