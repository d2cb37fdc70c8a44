use Rattle.std.proofs.Common.{rules}
use Rattle.flow_score.specs.Scores.{link_of}
use Rattle.flow_score.proofs.Ranges.{text_more}
use Rattle.flow_score.proofs.score.put_links.Goals as goal

pub loop-link-preserved : goal.loop-link-preserved
loop-link-preserved c = text_more (link_of c.args.shaped.now c.args.choices.now) c.loop-link.link _ _ _ c.loop-link.invariant (search rules)
