-- The states of a shaped flow's links: each is the one that those of its producer's inputs give.
use Rattle.std.specs.Prelude.{◌≡◌, ℕ, ◌<◌, Bool, List, [], length, map, get_or, Option, Some, None}
use Rattle.flow_graph.specs.declared.route.Route.{Route}
use Rattle.flow_graph.specs.declared.route.Route.TheVariants as route
use Rattle.flow_graph.specs.declared.route.Choice.{Choice}
use Rattle.flow_graph.specs.declared.state.State.{State}
use Rattle.flow_graph.specs.Charts.{Chart, link_at, width_at, links_into, into_seq, form_at}
use Rattle.flow_derive.specs.Derive.{derived, refined, routed_state, sorted_state, first_state}

abbrev pub written_or_same : Option Route → Route
written_or_same None = route.Same
written_or_same (Some r) = r

-- what is chosen for a link: the written route, or same, and no sort
abbrev pub choice_at : Chart → ℕ → Choice
choice_at c l = record { method = written_or_same (get_or c.written l None); sort = None }

abbrev pub state_at : List State → ℕ → State
state_at states l = get_or states l (first_state [])

-- the state of what a link's producer puts on it, by the states of that one's inputs
abbrev pub output_at : Bool → Chart → List State → ℕ → State
output_at regains c states l =
    refined regains (width_at c l) (derived (form_at c (link_at c l).from) (link_at c l).out (map (state_at states) (links_into c (link_at c l).from)))

-- the state of a link, by those of its producer's inputs
abbrev pub link_state : Bool → Chart → List State → ℕ → State
link_state regains c states l =
    refined regains (width_at c l) (sorted_state (choice_at c l).sort (routed_state (into_seq c l) (choice_at c l).method (output_at regains c states l)))

-- the states of all links: each is the one that its producer's inputs give
pub record AreStates (regains : Bool) (c : Chart) (states : List State) : Type 0 where
  pub each : length states ≡ length c.flow.links
  pub derived : (l : ℕ) → l < length c.flow.links → state_at states l ≡ link_state regains c states l
