use Rattle.std.proofs.Common.{rules, false}
use Rattle.flow_score.specs.Scores.{joins_unequal}
use Rattle.flow_score.proofs.Ranges.{below_more}
use Rattle.flow_score.proofs.degrees.join_degrees.Goals as goal

pub loop-link-preserved : goal.loop-link-preserved
loop-link-preserved c = below_more (joins_unequal c.args.shaped.now c.args.choices.now c.args.nodes) false c.loop-link.link c.loop-link.invariant (search rules)
