use Rattle.op_match.proofs.Means.{captures_match, captures_match_runs}
use Rattle.op_match.proofs.laws.captures_match.Goals as goal

pub returns-clause-values : goal.returns-clause-values
returns-clause-values c = captures_match

pub returns-clause-runs : goal.returns-clause-runs
returns-clause-runs c = captures_match_runs
