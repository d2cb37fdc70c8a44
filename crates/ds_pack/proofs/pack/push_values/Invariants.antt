use Rattle.std.proofs.Common.{◌≡◌, ◌++◌, take, flat_map}
use Rattle.std.specs.List.{AllByRecursion}
use Rattle.ds_value.specs.Canonical.{canonical_bytes, IsHeld}
use Rattle.ds_pack.proofs.pack.push_values.Given as goal

abbrev pub invariant-loop-value : goal.invariant-loop-value
invariant-loop-value l = record { items : l.value-items ≡ l.fn.row; bytes : l.into ≡ l.fn.into ++ flat_map canonical_bytes (take l.value-index l.value-items); held : AllByRecursion IsHeld (take l.value-index l.value-items) }
