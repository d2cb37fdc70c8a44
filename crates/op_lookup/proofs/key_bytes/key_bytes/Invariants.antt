use Rattle.std.proofs.Common.{◌≡◌, take}
use Rattle.std.specs.List.{AllByRecursion}
use Rattle.ds_value.specs.Canonical.{IsHeld}
use Rattle.ds_schema.specs.Rows.{val}
use Rattle.op_lookup.specs.Table.{key_of}
use Rattle.op_lookup.proofs.key_bytes.key_bytes.Given as goal

abbrev pub invariant-loop-col : goal.invariant-loop-col
invariant-loop-col l = record { bytes : l.bytes ≡ key_of (take l.col-index l.cols) l.row; held : AllByRecursion IsHeld (val (take l.col-index l.cols) l.row) }
