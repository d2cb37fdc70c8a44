use Rattle.op_runs.proofs.Given.{values_given}
use Rattle.op_runs.proofs.laws.values_are_given.Goals as goal

pub returns : goal.returns
returns c = values_given
