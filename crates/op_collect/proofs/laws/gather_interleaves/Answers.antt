use Rattle.op_collect.proofs.Means.{gather_interleaves}
use Rattle.op_collect.proofs.laws.gather_interleaves.Goals as goal

pub returns : goal.returns
returns c = gather_interleaves
