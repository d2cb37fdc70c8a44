use Rattle.std.proofs.Common.{length, ◌-◌}
use Rattle.ds_pack.proofs.Batched.{Read}
use Rattle.ds_pack.proofs.batches.unpack_rows.Given as goal

abbrev pub invariant-loop-taken : goal.invariant-loop-taken
invariant-loop-taken l = Read l.schema l.bytes l.rows.items l.taken

abbrev pub decreases-loop-taken : goal.decreases-loop-taken
decreases-loop-taken l = length l.bytes - l.taken
