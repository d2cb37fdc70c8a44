use Rattle.std.proofs.Common.{◌≡◌, length}
use Rattle.ds_pack.proofs.Rows.{Taken}
use Rattle.ds_pack.proofs.unpack.unpack_row.Given as goal

abbrev pub invariant-loop : goal.invariant-loop
invariant-loop l = (l.items ≡ l.fn.schema) × Taken l.bytes l.values.items l.taken × (length l.values.items ≡ l.index)
