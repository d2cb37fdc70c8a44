use Rattle.std.proofs.Common.{rules, ap, ◌∙◌, ◌+◌, ◌-◌, ◌^◌, min, sym}
use Rattle.flow_score.specs.Scores.{degree_at, sort_players_at, op_players}
use Rattle.flow_score.proofs.Ranges.{sum_more, capped_more}
use Rattle.flow_score.proofs.degrees.op_players.Goals as goal

pub loop-op-preserved : goal.loop-op-preserved
loop-op-preserved c =
    (search rules)
    ∙ capped_more (op_players c.args.shaped.now c.args.nodes c.loop-op.op) ((degree_at c.args.shaped.now c.args.nodes) c.loop-op.op) 4294967295 c.loop-op.total c.loop-op.invariant
    ∙ ap (λ m. min m 4294967295) (sym (sum_more (degree_at c.args.shaped.now c.args.nodes) c.loop-op.op))
