use Rattle.std.proofs.Common.{◌≡◌, ◌-◌, ◌^◌, min}
use Rattle.flow_score.specs.Scores.{sort_players}
use Rattle.flow_score.proofs.degrees.sort_players.Given as goal

abbrev pub invariant-loop-link : goal.invariant-loop-link
invariant-loop-link l = l.total ≡ min (sort_players l.shaped l.choices l.nodes l.link) (2 ^ 32 - 1)
