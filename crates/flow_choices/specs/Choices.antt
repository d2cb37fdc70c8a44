-- The choices for a flow's links, one a link: what is asked of them, and the states that the links have by them.
use Rattle.std.specs.Prelude.{◌≡◌, ℕ, ◌<◌, ◌⊎◌, Bool, List, [], ◌++◌, length, map, Option, Some, None}
use Rattle.ds_schema.specs.declared.key.Key.{Key}
use Rattle.flow_graph.specs.declared.route.Choice.{Choice}
use Rattle.flow_graph.specs.declared.state.State.{State}
use Rattle.flow_graph.specs.Charts.{Chart, link_at, links_into, into_seq, width_at, form_at}
use Rattle.flow_graph.specs.FlowShape.{IsShape, WrittenFits}
use Rattle.flow_graph.specs.Forms.{sort_key}
use Rattle.flow_derive.specs.Derive.{refined, routed_state, sorted_state}
use Rattle.flow_derive.specs.LinkStates.{state_at, output_at}
use Rattle.flow_rules.specs.declared.need.Need.{Need}
use Rattle.flow_rules.specs.declared.verdict.Verdict.TheVariants.{Accepted}
use Rattle.flow_rules.specs.Needs.{missed, route_missed}
use Rattle.flow_rules.specs.Verdicts.{IsVerdictBy, with_state}
use Rattle.flow_score.specs.Scores.{choice_of}

-- the sort that is inserted on a link, if there is one
abbrev pub sort_by : List Choice → ℕ → Option (List Key)
sort_by choices l = (choice_of choices l).sort

-- What is asked of them: a route stands where it may and its columns are the link's, as is asked of one that is written. An inserted sort is by the key
-- by which the input needs its rows sorted, so that it leaves what its consumer means as it is.
pub record AreChoices (c : Chart) (choices : List Choice) : Type 0 where
  pub each : length choices ≡ length c.flow.links
  pub routes : (l : ℕ) → l < length c.flow.links → WrittenFits (into_seq c l) (width_at c l) (Some (choice_of choices l).method)
  pub sorts : (l : ℕ) → l < length c.flow.links → (sort_by choices l ≡ None) ⊎ (sort_by choices l ≡ sort_key (form_at c (link_at c l).to) (link_at c l).port)

-- the state of a link, by what is chosen for it and the states of its producer's inputs
abbrev pub link_state_by : Bool → Chart → List Choice → List State → ℕ → State
link_state_by regains c choices states l =
    refined regains (width_at c l) (sorted_state (sort_by choices l) (routed_state (into_seq c l) (choice_of choices l).method (output_at regains c states l)))

-- the states of all links: each is the one that its producer's inputs give
pub record AreStatesBy (regains : Bool) (c : Chart) (choices : List Choice) (states : List State) : Type 0 where
  pub each : length states ≡ length c.flow.links
  pub derived : (l : ℕ) → l < length c.flow.links → state_at states l ≡ link_state_by regains c choices states l

-- what a link misses: the need of its route, of what its producer puts on it, before those of its consumer
abbrev pub link_misses_by : Bool → Chart → List Choice → List State → ℕ → List (Need × State)
link_misses_by regains c choices states l =
    let o = (link_at c l).to in
    with_state (output_at regains c states l) (route_missed (choice_of choices l).method (output_at regains c states l))
    ++ with_state (state_at states l) (missed (form_at c o) (map (state_at states) (links_into c o)) (link_at c l).port)

-- Choices with which a flow is accepted: they are such as is asked, and by them no link misses anything.
pub record AcceptedBy (regains : Bool) (c : Chart) (states : List State) (choices : List Choice) : Type 0 where
  pub choices_are : AreChoices c choices
  pub states_are : AreStatesBy regains c choices states
  pub none : (l : ℕ) → l < length c.flow.links → link_misses_by regains c choices states l ≡ []

-- So are those that the text of an accepted flow writes.
abbrev pub WrittenAccepted : Type 0
WrittenAccepted = (regains : Bool) (c : Chart) (states : List State) (choices : List Choice) → IsShape c → IsVerdictBy regains c (Accepted states choices) → AcceptedBy regains c states choices
