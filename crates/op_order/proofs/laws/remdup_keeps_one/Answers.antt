use Rattle.op_order.proofs.Means.{remdup-keeps-one}
use Rattle.op_order.proofs.Runs.{remdup-runs}
use Rattle.op_order.proofs.laws.remdup_keeps_one.Goals as goal

pub returns-clause-ordered : goal.returns-clause-ordered
returns-clause-ordered c = remdup-keeps-one

pub returns-clause-runs : goal.returns-clause-runs
returns-clause-runs c = remdup-runs
