use Rattle.op_match.proofs.MergeMeans.{merges_match, merges_match_runs}
use Rattle.op_match.proofs.laws.merges_match.Goals as goal

pub returns-clause-values : goal.returns-clause-values
returns-clause-values c = merges_match

pub returns-clause-runs : goal.returns-clause-runs
returns-clause-runs c = merges_match_runs
