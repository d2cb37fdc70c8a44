use Rattle.op_join.proofs.Means.{joins_match, joins_match_runs}
use Rattle.op_join.proofs.laws.joins_match.Goals as goal

pub returns-clause-values : goal.returns-clause-values
returns-clause-values c = joins_match

pub returns-clause-runs : goal.returns-clause-runs
returns-clause-runs c = joins_match_runs
