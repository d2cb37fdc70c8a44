use Rattle.std.proofs.Common.{◌≡◌, take}
use Rattle.std.specs.List.{flat_map}
use Rattle.ds_value.specs.Canonical.{canonical_bytes}
use Rattle.op_group.proofs.giving.key_bytes.Given as goal

abbrev pub invariant-loop-value : goal.invariant-loop-value
invariant-loop-value l = l.bytes ≡ flat_map canonical_bytes (take l.value-index l.values)
