-- The verdict on a shaped flow: the states and choices of all links, or the first part of a need that a link misses.
use Rattle.std.specs.Prelude.{◌≡◌, ℕ, ◌<◌, ◌&&◌, ◌||◌, is_some, Bool, true, false, List, [], ◌∷◌, ◌++◌, length, map, get_or, Option, Some, None}
use Rattle.ds_schema.specs.declared.key.Key.{Key}
use Rattle.flow_graph.specs.declared.route.Choice.{Choice}
use Rattle.flow_graph.specs.declared.state.State.{State}
use Rattle.flow_graph.specs.Charts.{Chart, link_at, all_links, width_at, links_into, links_from, op_at, is_seq, into_seq, form_at}
use Rattle.flow_graph.specs.FlowShape.{ForwardOrder, CoversLinks, PortsInOrder}
use Rattle.flow_graph.specs.Forms.{form, sort_key}
use Rattle.flow_graph.specs.Operators.{Op}
use Rattle.flow_graph.specs.Runs.{Out, Node, InsertedFrom}
use Rattle.op_base.specs.Columns.{IsIn}
use Rattle.std.specs.List.{AllByRecursion}
use Rattle.flow_rules.specs.Soundness.{Derives, Accepted as Meets}
use Rattle.flow_rules.specs.declared.need.Need.{Need}
use Rattle.flow_rules.specs.declared.verdict.Verdict.{Verdict}
use Rattle.flow_rules.specs.declared.verdict.Verdict.TheVariants.{Accepted, Refused}
use Rattle.flow_derive.specs.LinkStates.{choice_at, state_at, output_at, AreStates}
use Rattle.flow_rules.specs.Needs.{missed, route_missed}

-- an input that needs no order of its rows
abbrev pub unsorted : Option (List Key) → Bool
unsorted None = true
unsorted (Some []) = true
unsorted (Some (k ∷ keys)) = false

-- a link with a written route, or one between sequential operators that needs no order
abbrev pub routed_at : Chart → ℕ → Bool
routed_at c l = is_some (get_or c.written l None) || (is_seq (op_at c (link_at c l).from).mark && (into_seq c l && unsorted (sort_key (form_at c (link_at c l).to) (link_at c l).port)))

-- A stage: flows where no route and no sort has to be found. Of others `choice_at` isn't yet what is chosen.
abbrev pub IsRouted : Chart → Type 0
IsRouted c = (l : ℕ) → l < length c.flow.links → routed_at c l ≡ true

abbrev pub first_of : {X : Type 0} → List X → Option X
first_of [] = None
first_of (x ∷ xs) = Some x

abbrev pub first_with : Option Need → State → Option (Need × State)
first_with None s = None
first_with (Some part) s = Some (part, s)

-- parts of needs with the state that misses them
abbrev pub with_state : State → List Need → List (Need × State)
with_state s parts = map (λ part. (part, s)) parts

-- what a link misses: the need of its route, of what its producer puts on it, before those of its consumer
abbrev pub link_misses : Bool → Chart → List State → ℕ → List (Need × State)
link_misses regains c states l =
    let o = (link_at c l).to in
    with_state (output_at regains c states l) (route_missed (choice_at c l).method (output_at regains c states l))
    ++ with_state (state_at states l) (missed (form_at c o) (map (state_at states) (links_into c o)) (link_at c l).port)

-- no link misses anything
abbrev pub NoneMisses : Bool → Chart → List State → Type 0
NoneMisses regains c states = (l : ℕ) → l < length c.flow.links → link_misses regains c states l ≡ []

-- accepted: no link misses anything
pub record IsAccepted (regains : Bool) (c : Chart) (states : List State) (choices : List Choice) : Type 0 where
  pub states_are : AreStates regains c states
  pub choices_are : choices ≡ map (choice_at c) (all_links c)
  pub none : NoneMisses regains c states

-- refused: the least link that misses something, and the first that it misses
pub record IsRefused (regains : Bool) (c : Chart) (link : ℕ) (need : Need) (have : State) : Type 0 where
  pub states : List State
  pub states_are : AreStates regains c states
  pub in_range : link < length c.flow.links
  pub before : (l : ℕ) → l < link → link_misses regains c states l ≡ []
  pub rest : List (Need × State)
  pub first : link_misses regains c states link ≡ (need, have) ∷ rest

abbrev pub IsVerdictBy : Bool → Chart → Verdict → Type 0
IsVerdictBy regains c (Accepted states choices) = IsAccepted regains c states choices
IsVerdictBy regains c (Refused link need have) = IsRefused regains c link need have

-- whether states are refined with regain: not yet
abbrev pub infer_regains : Bool
infer_regains = false

-- the verdict on a flow
abbrev pub IsVerdict : Chart → Verdict → Type 0
IsVerdict c v = IsVerdictBy infer_regains c v

-- the flow as operators with all that decides what they mean, in its order
abbrev pub out_at : Chart → ℕ → Out
out_at c l = record { port = (link_at c l).out; link = l; route = (choice_at c l).method; sequential = into_seq c l }

abbrev pub node_at : Chart → (ℕ → Op) → ℕ → Node
node_at c ops o = record { number = o; op = ops o; ins = links_into c o; outs = map (out_at c) (links_from c o) }

abbrev pub nodes_of : Chart → (ℕ → Op) → List Node
nodes_of c ops = map (node_at c ops) c.order

-- operators are such as the checker sees them
abbrev pub FormsAre : Chart → (ℕ → Op) → Type 0
FormsAre c ops = (o : ℕ) → IsIn o c.order → form (ops o) ≡ form_at c o

-- what an accepted verdict says of the flow's operators, for the law of flows
pub record AcceptedFlow (regains : Bool) (c : Chart) (states : List State) (ops : ℕ → Op) : Type 0 where
  pub inserted : AllByRecursion (λ (n : Node). InsertedFrom (λ l. (choice_at c l).sort) n.op 0 n.ins) (nodes_of c ops)
  pub derives : AllByRecursion (Derives regains (width_at c) (λ l. (choice_at c l).sort) (state_at states)) (nodes_of c ops)
  pub accepted : AllByRecursion (Meets regains (width_at c) (state_at states)) (nodes_of c ops)

abbrev pub AcceptedIsSound : Type 0
AcceptedIsSound = (regains : Bool) (c : Chart) (states : List State) (choices : List Choice) (ops : ℕ → Op) → IsVerdictBy regains c (Accepted states choices) → ((o : ℕ) → IsIn o c.order → PortsInOrder c o) → FormsAre c ops → AcceptedFlow regains c states ops

-- A flow has one verdict.
abbrev pub OneVerdict : Type 0
OneVerdict = (regains : Bool) (c : Chart) (v w : Verdict) → ForwardOrder c [] c.order → CoversLinks c → IsVerdictBy regains c v → IsVerdictBy regains c w → v ≡ w
