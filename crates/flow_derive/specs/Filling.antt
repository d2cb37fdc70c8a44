-- States filled in, operator by operator.
use Rattle.std.specs.Prelude.{◌≡◌, ◌<◌, ℕ, List, length, false}
use Rattle.flow_graph.specs.declared.state.State.{State}
use Rattle.flow_graph.specs.Charts.{Chart, link_at}
use Rattle.flow_derive.specs.LinkStates.{state_at, link_state}

-- the links that leave an operator get their states, and the others stay
pub record Fills (c : Chart) (o : ℕ) (old new : List State) : Type 0 where
  pub each : length new ≡ length old
  pub filled : (l : ℕ) → l < length c.flow.links → (link_at c l).from ≡ o → state_at new l ≡ link_state false c old l
  pub kept : (l : ℕ) → ((link_at c l).from ≡ o → ⊥) → state_at new l ≡ state_at old l
