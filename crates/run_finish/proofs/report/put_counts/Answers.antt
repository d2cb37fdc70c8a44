use Rattle.std.proofs.Common.{get_or, rules}
use Rattle.flow_score.proofs.Ranges.{text_more}
use Rattle.osh_ends.specs.Reports.{count_line}
use Rattle.run_finish.proofs.report.put_counts.Goals as goal

pub loop-link-preserved : goal.loop-link-preserved
loop-link-preserved c = text_more (λ k. count_line k (get_or c.args.counts.now k 0)) c.loop-link.link _ _ _ c.loop-link.invariant (search rules)
