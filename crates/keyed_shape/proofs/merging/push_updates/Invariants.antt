use Rattle.std.proofs.Common.{◌≡◌, ◌++◌, map, take}
use Rattle.std.specs.List.{AllByRecursion, flat_map}
use Rattle.ds_schema.specs.Schemas.{IsField}
use Rattle.keyed_shape.specs.Keyed.{nullable_if, other_fields}
use Rattle.keyed_shape.proofs.merging.push_updates.Given as goal

abbrev pub invariant-loop-schema : goal.invariant-loop-schema
invariant-loop-schema l = record {
  made : l.made.items ≡ l.fn.made.items ++ flat_map (λ fields. map (nullable_if l.test) (other_fields l.key fields)) (map (λ s. s.now) (take l.schema-index l.updates));
  each : AllByRecursion IsField l.fn.made.items → AllByRecursion IsField l.made.items;
}
