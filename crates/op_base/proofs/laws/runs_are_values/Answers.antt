use Rattle.op_base.proofs.FeedLaws.{by_runs_is}
use Rattle.op_base.proofs.laws.runs_are_values.Goals as goal

pub returns : goal.returns
returns c = λ ds columns rule inputs h. by_runs_is ds columns rule inputs h
