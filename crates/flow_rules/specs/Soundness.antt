-- Accepted flows and their legal runs, and what is promised of each link.
use Rattle.std.specs.Prelude.{Bool, ◌≡◌, ℕ, List, [], map, length, Option}
use Rattle.std.specs.List.{AllByRecursion, range_with_len}
use Rattle.ds_schema.specs.declared.key.Key.{Key}
use Rattle.op_base.specs.Columns.{Row}
use Rattle.op_base.specs.Lists.{joined}
use Rattle.flow_graph.specs.declared.state.State.{State}
use Rattle.flow_graph.specs.Forms.{form}
use Rattle.flow_graph.specs.Runs.{Out, Node, Lists, Means, Runs, Forward, InsertedFrom, FitsShape, arranged_if}
use Rattle.flow_graph.specs.Shapes.{Wide, SpotFits}
use Rattle.flow_graph.specs.States.{Holds}
use Rattle.flow_derive.specs.Derive.{derived, refined, routed_state, sorted_state}
use Rattle.flow_rules.specs.Needs.{missed, route_missed}

-- the state of what an operator puts on a link, before the route
abbrev pub output_state : Bool → (ℕ → ℕ) → (ℕ → State) → Node → Out → State
output_state regains width state n o = refined regains (width o.link) (derived (form n.op) o.port (map state n.ins))

-- the states of the links that leave an operator, by those of its inputs
abbrev pub Derives : Bool → (ℕ → ℕ) → (ℕ → Option (List Key)) → (ℕ → State) → Node → Type 0
Derives regains width sorts state n =
    AllByRecursion (λ (o : Out). state o.link ≡ refined regains (width o.link) (sorted_state (sorts o.link) (routed_state o.sequential o.route (output_state regains width state n o)))) n.outs

-- no input and no route misses a part of its need
abbrev pub Accepted : Bool → (ℕ → ℕ) → (ℕ → State) → Node → Type 0
Accepted regains width state n =
    AllByRecursion (λ i. missed (form n.op) (map state n.ins) i ≡ []) (range_with_len 0 (length n.ins))
    × AllByRecursion (λ (o : Out). route_missed o.route (output_state regains width state n o) ≡ []) n.outs

-- A shaped flow that is accepted, by refining with regain or without, with its inserted sorts, what it means, and a legal run of it.
pub record Sound (regains : Bool) (nodes : List Node) (width : ℕ → ℕ) (sorts : ℕ → Option (List Key)) (state : ℕ → State) (whole : ℕ → List Row) (run : Lists) : Type 0 where
  pub forward : Forward [] nodes
  pub shaped : AllByRecursion (FitsShape width) nodes
  pub inserted : AllByRecursion (λ (n : Node). InsertedFrom sorts n.op 0 n.ins) nodes
  pub derives : AllByRecursion (Derives regains width sorts state) nodes
  pub accepted : AllByRecursion (Accepted regains width state) nodes
  pub means : AllByRecursion (Means whole) nodes
  pub runs : AllByRecursion (Runs sorts run) nodes

-- What is promised of a link: its state holds, its rows have its number of columns, and as many rows were put on it as the whole has.
pub record Keeps (width : ℕ → ℕ) (sorts : ℕ → Option (List Key)) (state : ℕ → State) (whole : ℕ → List Row) (run : Lists) (l : ℕ) : Type 0 where
  pub holds : Holds (state l) (run.got l) (arranged_if (sorts l) (whole l))
  pub wide : AllByRecursion (Wide (width l)) (whole l)
  pub place_fits : SpotFits (width l) (state l).place
  pub counted : length (joined (run.sent l)) ≡ length (whole l)
