use Rattle.std.proofs.Common.{rules}
use Rattle.flow_score.specs.VerdictText.{line_of}
use Rattle.flow_score.proofs.Ranges.{text_more}
use Rattle.flow_score.proofs.verdict.put_states.Goals as goal

pub loop-link-preserved : goal.loop-link-preserved
loop-link-preserved c = text_more (line_of c.args.shaped.now c.args.states.now) c.loop-link.link _ _ _ c.loop-link.invariant (search rules)
