use Rattle.std.proofs.Common.{rules, ap, ◌∙◌, ◌+◌, ◌-◌, ◌^◌, min, sym}
use Rattle.flow_score.specs.Scores.{degree_at, sort_players_at, sort_players}
use Rattle.flow_score.proofs.Ranges.{sum_more, capped_more}
use Rattle.flow_score.proofs.degrees.sort_players.Goals as goal

pub loop-link-preserved : goal.loop-link-preserved
loop-link-preserved c =
    (search rules)
    ∙ capped_more (sort_players c.args.shaped.now c.args.choices.now c.args.nodes c.loop-link.link) ((sort_players_at c.args.shaped.now c.args.choices.now c.args.nodes) c.loop-link.link) 4294967295 c.loop-link.total c.loop-link.invariant
    ∙ ap (λ m. min m 4294967295) (sym (sum_more (sort_players_at c.args.shaped.now c.args.choices.now c.args.nodes) c.loop-link.link))
