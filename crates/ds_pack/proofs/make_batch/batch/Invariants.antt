use Rattle.std.proofs.Common.{◌≡◌, take}
use Rattle.std.specs.List.{AllByRecursion}
use Rattle.ds_value.specs.Canonical.{IsHeld}
use Rattle.ds_pack.specs.Batches.{packed_rows}
use Rattle.ds_pack.proofs.make_batch.batch.Given as goal

abbrev pub invariant-loop-row : goal.invariant-loop-row
invariant-loop-row l = record { bytes : l.bytes ≡ packed_rows (take l.row-index l.rows); held : AllByRecursion (AllByRecursion IsHeld) (take l.row-index l.rows) }
