use Rattle.op_match.proofs.Pieces.{pushed_key}
use Rattle.op_match.proofs.columns.key_of.Goals as goal

pub loop-key-preserved : goal.loop-key-preserved
loop-key-preserved c = pushed_key c.as_slice-key-items.result.now c.loop-key.key-index _ c.args.row.now _ _ _ c.loop-key-test.true c.loop-key.invariant c.in_ok-value_at.ensures c.in_ok-push.ensures.items
