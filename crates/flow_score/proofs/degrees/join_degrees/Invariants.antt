use Rattle.std.proofs.Common.{◌≡◌, ◌<◌, ℕ, false}
use Rattle.flow_score.specs.Scores.{joins_unequal}
use Rattle.flow_score.proofs.degrees.join_degrees.Given as goal

abbrev pub invariant-loop-link : goal.invariant-loop-link
invariant-loop-link l = (k : ℕ) → k < l.link → joins_unequal l.shaped l.choices l.nodes k ≡ false
