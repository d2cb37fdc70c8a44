use Rattle.std.proofs.Common.{rules}
use Rattle.flow_score.specs.VerdictText.{sink_at}
use Rattle.flow_score.proofs.Ranges.{text_more}
use Rattle.flow_score.proofs.verdict.put_sinks.Goals as goal

pub loop-op-preserved : goal.loop-op-preserved
loop-op-preserved c = text_more (sink_at c.args.shaped.now c.args.states.now) c.loop-op.op _ _ _ c.loop-op.invariant (search rules)
