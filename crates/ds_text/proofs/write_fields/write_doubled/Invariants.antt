use Rattle.std.proofs.Common.{◌≡◌, ◌++◌, drop}
use Rattle.ds_text.specs.Cells.{doubled}
use Rattle.ds_text.proofs.write_fields.write_doubled.Given as goal

abbrev pub invariant-loop-b : goal.invariant-loop-b
invariant-loop-b l = l.into ++ doubled (drop l.b-index l.bytes) ≡ l.fn.into ++ doubled l.bytes
