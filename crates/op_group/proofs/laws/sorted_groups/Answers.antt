use Rattle.op_group.proofs.Means.{sorted-groups, ordered-groups}
use Rattle.op_group.proofs.laws.sorted_groups.Goals as goal

pub returns-clause-runs : goal.returns-clause-runs
returns-clause-runs c = sorted-groups

pub returns-clause-ordered : goal.returns-clause-ordered
returns-clause-ordered c = ordered-groups
