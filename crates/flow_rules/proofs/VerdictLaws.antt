-- An accepted verdict gives what the law of flows asks of states and choices.
use Rattle.std.proofs.Common.{◌≡◌, ℕ, zero, suc, ◌+◌, ◌<◌, Bool, inl, inr, List, [], ◌∷◌, map, refl, sym, ap, ◌∙◌, subst, arith, length, get_or}
use Rattle.std.specs.List.{AllByRecursion, range_with_len}
use Rattle.op_base.specs.Columns.{IsIn}
use Rattle.flow_graph.specs.declared.route.Choice.{Choice}
use Rattle.flow_graph.specs.declared.state.State.{State}
use Rattle.flow_graph.specs.Charts.{Chart, link_at, width_at, links_into, links_from, into_seq, form_at}
use Rattle.flow_graph.specs.Forms.{form}
use Rattle.flow_graph.specs.Operators.{Op}
use Rattle.flow_graph.specs.Runs.{Out, Node, InsertedFrom}
use Rattle.flow_rules.specs.declared.need.Need.{Need}
use Rattle.flow_derive.specs.Derive.{derived, refined, routed_state, sorted_state}
use Rattle.flow_rules.specs.Needs.{missed, route_missed}
use Rattle.flow_rules.specs.Soundness.{Derives, Accepted, output_state}
use Rattle.flow_graph.specs.FlowShape.{PortsInOrder}
use Rattle.flow_derive.specs.LinkStates.{AreStates, state_at, choice_at, output_at}
use Rattle.flow_rules.specs.Verdicts.{IsAccepted, FormsAre, with_state, out_at, node_at, nodes_of}
use Rattle.op_base.proofs.KeyValues.{both_nothing, map_nothing}
use Rattle.flow_derive.proofs.Fills.{marked}

marked_at : (P : ℕ → Type 0) (ls : List ℕ) (i : ℕ) → i < length ls → AllByRecursion P ls → P (get_or ls i 0)
marked_at P [] i l h = absurd (omega arith)
marked_at P (x ∷ ls) zero l h = h.0
marked_at P (x ∷ ls) (suc i) l h = marked_at P ls i (omega arith) h.1

through : {X Y : Type 0} (P : Y → Type 0) (Q : X → Type 0) (g : X → Y) → ((x : X) → Q x → P (g x)) → (xs : List X) → AllByRecursion Q xs → AllByRecursion P (map g xs)
through P Q g f [] h = tt
through P Q g f (x ∷ xs) h = (f x h.0, through P Q g f xs h.1)

each_of : (P : ℕ → Type 0) (n a k : ℕ) → a + k ≡ n → ((i : ℕ) → i < n → P i) → AllByRecursion P (range_with_len a k)
each_of P n a zero e h = tt
each_of P n a (suc k) e h = (h a (omega arith), each_of P n (a + 1) k (omega arith) h)

none_with : (s : State) (parts : List Need) → with_state s parts ≡ [] → parts ≡ []
none_with s parts e = map_nothing (λ (part : Need). (part, s)) parts e

below : (a k l : ℕ) → l < 0 + k → l < k
below a k l h = omega arith

-- the state of what a node puts on a link
same_output : (regains : Bool) (c : Chart) (states : List State) (ops : ℕ → Op) (o l : ℕ) → form (ops o) ≡ form_at c o → (link_at c l).from ≡ o →
    output_at regains c states l ≡ output_state regains (width_at c) (state_at states) (node_at c ops o) (out_at c l)
same_output regains c states ops o l f e =
    subst (λ p. output_at regains c states l ≡ refined regains (width_at c l) (derived p (link_at c l).out (map (state_at states) (links_into c o)))) (sym f)
    (ap (λ p. refined regains (width_at c l) (derived (form_at c p) (link_at c l).out (map (state_at states) (links_into c p)))) e)

node_derives : (regains : Bool) (c : Chart) (states : List State) (ops : ℕ → Op) (o : ℕ) → AreStates regains c states → form (ops o) ≡ form_at c o → Derives regains (width_at c) (λ l. (choice_at c l).sort) (state_at states) (node_at c ops o)
node_derives regains c states ops o s f =
    through (λ (q : Out). state_at states q.link ≡ refined regains (width_at c q.link) (sorted_state (choice_at c q.link).sort (routed_state q.sequential q.route (output_state regains (width_at c) (state_at states) (node_at c ops o) q))))
    (λ l. ((link_at c l).from ≡ o) × (l < 0 + length c.flow.links)) (out_at c)
    (λ l h. s.derived l (below 0 (length c.flow.links) l h.1)
    ∙ ap (λ t. refined regains (width_at c l) (sorted_state (choice_at c l).sort (routed_state (into_seq c l) (choice_at c l).method t))) (same_output regains c states ops o l f h.0))
    (links_from c o) (marked (λ l. (link_at c l).from) o 0 (length c.flow.links))

node_accepted : (regains : Bool) (c : Chart) (states : List State) (choices : List Choice) (ops : ℕ → Op) (o : ℕ) → IsAccepted regains c states choices → PortsInOrder c o → form (ops o) ≡ form_at c o → Accepted regains (width_at c) (state_at states) (node_at c ops o)
node_accepted regains c states choices ops o s ports f = (
  each_of (λ i. missed (form (ops o)) (map (state_at states) (links_into c o)) i ≡ []) (length (links_into c o)) 0 (length (links_into c o)) (omega arith) inputs,
  through (λ (q : Out). route_missed q.route (output_state regains (width_at c) (state_at states) (node_at c ops o) q) ≡ []) (λ l. ((link_at c l).from ≡ o) × (l < 0 + length c.flow.links)) (out_at c)
      (λ l h. subst (λ t. route_missed (choice_at c l).method t ≡ []) (same_output regains c states ops o l f h.0) (none_with (output_at regains c states l) (route_missed (choice_at c l).method (output_at regains c states l)) (both l h.1).0))
      (links_from c o) (marked (λ l. (link_at c l).from) o 0 (length c.flow.links)),
)
  where
    both : (l : ℕ) → l < 0 + length c.flow.links → (with_state (output_at regains c states l) (route_missed (choice_at c l).method (output_at regains c states l)) ≡ []) × (with_state (state_at states l) (missed (form_at c (link_at c l).to) (map (state_at states) (links_into c (link_at c l).to)) (link_at c l).port) ≡ [])
    both l h = both_nothing (with_state (output_at regains c states l) (route_missed (choice_at c l).method (output_at regains c states l))) (with_state (state_at states l) (missed (form_at c (link_at c l).to) (map (state_at states) (links_into c (link_at c l).to)) (link_at c l).port)) (s.none l (below 0 (length c.flow.links) l h))

    inputs : (i : ℕ) → i < length (links_into c o) → missed (form (ops o)) (map (state_at states) (links_into c o)) i ≡ []
    inputs i h =
        let l = get_or (links_into c o) i 0 in
        let m = marked_at (λ k. ((link_at c k).to ≡ o) × (k < 0 + length c.flow.links)) (links_into c o) i h (marked (λ k. (link_at c k).to) o 0 (length c.flow.links)) in
        let none = none_with (state_at states l) (missed (form_at c (link_at c l).to) (map (state_at states) (links_into c (link_at c l).to)) (link_at c l).port) (both l m.1).1 in
        subst (λ p. missed p (map (state_at states) (links_into c o)) i ≡ []) (sym f)
        (subst (λ p. missed (form_at c o) (map (state_at states) (links_into c o)) p ≡ []) (ports i h)
        (subst (λ p. missed (form_at c p) (map (state_at states) (links_into c p)) (link_at c l).port ≡ []) m.0 none))

no_sorts : (c : Chart) (op : Op) (i : ℕ) (ins : List ℕ) → InsertedFrom (λ l. (choice_at c l).sort) op i ins
no_sorts c op i [] = tt
no_sorts c op i (l ∷ ins) = (inl refl, no_sorts c op (suc i) ins)

all_nodes : (P : Node → Type 0) (c : Chart) (ops : ℕ → Op) (order : List ℕ) → ((o : ℕ) → IsIn o order → P (node_at c ops o)) → AllByRecursion P (map (node_at c ops) order)
all_nodes P c ops [] h = tt
all_nodes P c ops (o ∷ order) h = (h o (inl refl), all_nodes P c ops order (λ p i. h p (inr i)))

pub accepted_derives : (regains : Bool) (c : Chart) (states : List State) (choices : List Choice) (ops : ℕ → Op) → IsAccepted regains c states choices → FormsAre c ops → AllByRecursion (Derives regains (width_at c) (λ l. (choice_at c l).sort) (state_at states)) (nodes_of c ops)
accepted_derives regains c states choices ops s f = all_nodes (Derives regains (width_at c) (λ l. (choice_at c l).sort) (state_at states)) c ops c.order (λ o i. node_derives regains c states ops o s.states_are (f o i))

pub accepted_meets : (regains : Bool) (c : Chart) (states : List State) (choices : List Choice) (ops : ℕ → Op) → IsAccepted regains c states choices → ((o : ℕ) → IsIn o c.order → PortsInOrder c o) → FormsAre c ops → AllByRecursion (Accepted regains (width_at c) (state_at states)) (nodes_of c ops)
accepted_meets regains c states choices ops s p f = all_nodes (Accepted regains (width_at c) (state_at states)) c ops c.order (λ o i. node_accepted regains c states choices ops o s (p o i) (f o i))

pub accepted_inserts : (c : Chart) (ops : ℕ → Op) → AllByRecursion (λ (n : Node). InsertedFrom (λ l. (choice_at c l).sort) n.op 0 n.ins) (nodes_of c ops)
accepted_inserts c ops = all_nodes (λ (n : Node). InsertedFrom (λ l. (choice_at c l).sort) n.op 0 n.ins) c ops c.order (λ o i. no_sorts c (ops o) 0 (links_into c o))
