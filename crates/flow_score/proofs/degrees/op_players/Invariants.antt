use Rattle.std.proofs.Common.{◌≡◌, ◌-◌, ◌^◌, min}
use Rattle.flow_score.specs.Scores.{op_players}
use Rattle.flow_score.proofs.degrees.op_players.Given as goal

abbrev pub invariant-loop-op : goal.invariant-loop-op
invariant-loop-op l = l.total ≡ min (op_players l.shaped l.nodes l.op) (2 ^ 32 - 1)
