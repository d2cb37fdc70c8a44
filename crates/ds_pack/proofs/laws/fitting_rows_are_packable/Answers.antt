use Rattle.ds_pack.proofs.Batched.{fitting-rows-are-packable}
use Rattle.ds_pack.proofs.laws.fitting_rows_are_packable.Goals as goal

pub returns : goal.returns
returns c = fitting-rows-are-packable
