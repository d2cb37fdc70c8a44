use Rattle.ds_expr.proofs.Evals.{row_within}
use Rattle.ds_expr.proofs.evaluating.use_row.Goals as goal

pub apply-requires-clause-row : goal.apply-requires-clause-row
apply-requires-clause-row c = row_within c.args.used.now c.requires.row
