use Rattle.op_match.proofs.Merging.{pushed_column}
use Rattle.op_match.proofs.columns.push_first_columns.Goals as goal

pub loop-col-preserved : goal.loop-col-preserved
loop-col-preserved c = pushed_column c.args.row.now c.loop-col.col c.args.values.now.items _ _ _ c.loop-col.invariant c.in_ok-value_at.ensures c.in_ok-push.ensures.items
