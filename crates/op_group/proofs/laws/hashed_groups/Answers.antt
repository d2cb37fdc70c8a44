use Rattle.op_group.proofs.Means.{hashed-groups}
use Rattle.op_group.proofs.laws.hashed_groups.Goals as goal

pub returns : goal.returns
returns c = hashed-groups
