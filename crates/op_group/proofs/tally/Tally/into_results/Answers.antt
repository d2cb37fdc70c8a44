use Rattle.std.proofs.Common.{◌∙◌}
use Rattle.op_group.proofs.TallyLaws.{results_kept}
use Rattle.op_group.proofs.tally.Tally.into_results.Goals as goal

pub returns : goal.returns
returns c = λ aggs rows stands. c.in_ok-values.ensures ∙ results_kept aggs rows c.args.self c.if-count-gt-MOST_ROWS.false stands
