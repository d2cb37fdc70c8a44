-- The links that leave an operator get what it gives.
use Rattle.std.specs.Prelude.{ℕ, ◌≡◌, ◌<◌, List, [], length, get_or}
use Rattle.ds_schema.specs.declared.schema.Field.{Field}
use Rattle.flow_graph.specs.Charts.{no_link}
use Rattle.flow_graph.specs.declared.flow.Flow.{Flow}
use Rattle.flow_shape.specs.Refusals.{chart_of, given_on}

-- of the links below k, those that leave the operator have got it; no other has changed
pub record HasGiven (flow : Flow) (old new : List (List Field)) (o k : ℕ) : Type 0 where
  pub len : length new ≡ length old
  pub given : (l : ℕ) → l < k → (get_or flow.links l no_link).from ≡ o → get_or new l [] ≡ given_on (chart_of flow old) l
  pub kept : (l : ℕ) → ((get_or flow.links l no_link).from ≡ o → ⊥) → get_or new l [] ≡ get_or old l []
