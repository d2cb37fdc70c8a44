use Rattle.std.proofs.Common.{rules}
use Rattle.flow_score.specs.Scores.{op_of}
use Rattle.flow_score.proofs.Ranges.{text_more}
use Rattle.flow_score.proofs.score.put_ops.Goals as goal

pub loop-op-preserved : goal.loop-op-preserved
loop-op-preserved c = text_more (op_of c.args.shaped.now c.args.nodes) c.loop-op.op _ _ _ c.loop-op.invariant (search rules)
