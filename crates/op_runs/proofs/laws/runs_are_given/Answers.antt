use Rattle.op_runs.proofs.Given.{runs_given}
use Rattle.op_runs.proofs.laws.runs_are_given.Goals as goal

pub returns : goal.returns
returns c = runs_given
