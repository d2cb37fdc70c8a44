-- Whether a flow can run on so many nodes: each `same` joins equal degrees, and there are at most 512 players.
use Rattle.std.specs.Prelude.{◌≡◌, ◌<◌, ◌≤◌, ◌^◌, ◌-◌, min, ℕ, List}
use Rattle.flow_graph.specs.declared.route.Choice.{Choice}
use Rattle.flow_graph.specs.Charts.{Chart}
use Rattle.flow_score.specs.declared.degrees.ScoreFault.{ScoreFault}
use Rattle.flow_score.specs.declared.degrees.ScoreFault.TheVariants.{DegreeMismatch, TooManyPlayers, Memory}
use Rattle.flow_score.specs.Scores.{players, IsMismatch, JoinsEqual}

abbrev pub Mismatches : Chart → List Choice → ℕ → ScoreFault → Type 0
Mismatches c choices nodes (DegreeMismatch link from to) = IsMismatch c choices nodes link from to
Mismatches c choices nodes (TooManyPlayers n) = ⊥
Mismatches c choices nodes Memory = ⊥

pub record Seats (c : Chart) (choices : List Choice) (nodes n : ℕ) : Type 0 where
  pub equal : JoinsEqual c choices nodes
  pub number : n ≡ players c choices nodes
  pub few : n ≤ 512

-- more players than there may be; the number is given up to 2^32 - 1
pub record Crowds (c : Chart) (choices : List Choice) (nodes n : ℕ) : Type 0 where
  pub equal : JoinsEqual c choices nodes
  pub number : n ≡ min (players c choices nodes) (2 ^ 32 - 1)
  pub many : 512 < players c choices nodes

-- degrees come before players
abbrev pub Refuses : Chart → List Choice → ℕ → ScoreFault → Type 0
Refuses c choices nodes (DegreeMismatch link from to) = IsMismatch c choices nodes link from to
Refuses c choices nodes (TooManyPlayers n) = Crowds c choices nodes n
Refuses c choices nodes Memory = ⊥
