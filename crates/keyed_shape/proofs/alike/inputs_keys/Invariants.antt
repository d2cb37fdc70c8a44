use Rattle.std.proofs.Common.{◌≡◌, map, take}
use Rattle.keyed_shape.specs.Matched.{inputs_keys}
use Rattle.keyed_shape.proofs.alike.inputs_keys.Given as goal

abbrev pub invariant-loop-schema : goal.invariant-loop-schema
invariant-loop-schema l = l.keys ≡ inputs_keys l.key (map (λ s. s.now) (take l.schema-index l.ins))
