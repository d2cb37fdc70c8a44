use Rattle.ds_pack.proofs.Batched.{packed-rows-are-read}
use Rattle.ds_pack.proofs.laws.packed_rows_are_read.Goals as goal

pub returns : goal.returns
returns c = packed-rows-are-read
