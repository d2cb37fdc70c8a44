use Rattle.ds_pack.proofs.Rows.{packed-rows-differ}
use Rattle.ds_pack.proofs.laws.packed_rows_differ.Goals as goal

pub returns : goal.returns
returns c = packed-rows-differ
