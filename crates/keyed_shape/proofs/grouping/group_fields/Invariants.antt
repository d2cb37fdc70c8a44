use Rattle.std.proofs.Common.{◌≡◌, ℕ, Bool, List, map, take, ◌++◌}
use Rattle.keyed_shape.specs.Keyed.{field_named, result_field}
use Rattle.keyed_shape.proofs.grouping.group_fields.Given as goal

abbrev pub invariant-loop-agg : goal.invariant-loop-agg
invariant-loop-agg l = l.made.items ≡ map (λ (k : List ℕ × Bool). field_named l.fields (k.0)) l.key ++ map (result_field l.fields) (take l.agg-index l.results)
