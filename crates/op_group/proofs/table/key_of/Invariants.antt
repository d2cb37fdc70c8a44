use Rattle.std.proofs.Common.{◌≡◌, take}
use Rattle.std.specs.List.{AllByRecursion, flat_map}
use Rattle.ds_value.specs.Canonical.{canonical_bytes, IsHeld}
use Rattle.ds_schema.specs.Rows.{cols, val}
use Rattle.op_group.proofs.table.key_of.Given as goal

abbrev pub invariant-loop-key : goal.invariant-loop-key
invariant-loop-key l = record { bytes : l.bytes ≡ flat_map canonical_bytes (val (cols (take l.key-index l.key-items)) l.row); held : AllByRecursion IsHeld (val (cols (take l.key-index l.key-items)) l.row) }
