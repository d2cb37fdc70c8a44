-- Accepted choices give what the law of flows asks.
use Rattle.std.proofs.Common.{◌≡◌, ℕ, zero, suc, ◌+◌, ◌<◌, ◌⊎◌, Bool, true, inl, inr, Option, None, List, [], ◌∷◌, ◌++◌, map, refl, sym, ap, ◌∙◌, subst, arith, length, get_or}
use Rattle.std.specs.Prelude.{Some}
use Rattle.std.specs.List.{AllByRecursion, range_with_len}
use Rattle.ds_schema.specs.declared.key.Key.{Key}
use Rattle.op_base.specs.Columns.{IsIn, Row}
use Rattle.op_base.proofs.KeyValues.{both_nothing, map_nothing}
use Rattle.flow_graph.specs.declared.route.Route.{Route}
use Rattle.flow_graph.specs.declared.route.Route.TheVariants as route
use Rattle.flow_graph.specs.declared.route.Choice.{Choice}
use Rattle.flow_graph.specs.declared.state.State.{State}
use Rattle.flow_graph.specs.Charts.{Chart, link_at, width_at, links_into, links_from, into_seq, form_at}
use Rattle.flow_graph.specs.FlowShape.{IsShape, ForwardOrder, PortsInOrder, WrittenFits, may_stand}
use Rattle.flow_graph.specs.Forms.{form, sort_key}
use Rattle.flow_graph.specs.Operators.{Op, result}
use Rattle.flow_graph.specs.Runs.{Out, Node, Forward, InsertedFrom, FitsShape, Means, RouteFits, links}
use Rattle.flow_graph.specs.Shapes.{HasPort}
use Rattle.flow_derive.specs.Derive.{derived, refined, routed_state, sorted_state}
use Rattle.flow_derive.specs.LinkStates.{state_at, output_at}
use Rattle.flow_derive.proofs.Fills.{marked}
use Rattle.flow_rules.specs.declared.need.Need.{Need}
use Rattle.flow_rules.specs.Needs.{missed, route_missed}
use Rattle.flow_rules.specs.Soundness.{Derives, Accepted, output_state}
use Rattle.flow_rules.specs.Verdicts.{FormsAre, with_state, out_at, node_at, nodes_of}
use Rattle.flow_score.specs.Scores.{choice_of}
use Rattle.flow_sound.proofs.Members.{all_mapped}
use Rattle.flow_sound.proofs.Order.{leaves_it, enters_it}
use Rattle.flow_plan.specs.Planned.{out_by, node_by, nodes_by}
use Rattle.flow_choices.specs.Choices.{sort_by, AreChoices, AreStatesBy, AcceptedBy}

-- from what holds of some numbers' images to what holds of others
pub over : {X Y : Type 0} (P : X → Type 0) (Q : Y → Type 0) (f : ℕ → X) (g : ℕ → Y) (ls : List ℕ) → ((l : ℕ) → IsIn l ls → P (f l) → Q (g l)) → AllByRecursion P (map f ls) → AllByRecursion Q (map g ls)
over P Q f g [] h a = tt
over P Q f g (l ∷ ls) h a = (h l (inl refl) a.0, over P Q f g ls (λ k i. h k (inr i)) a.1)

-- a route as it would be asked if it were written
pub route_columns : (seq : Bool) (width : ℕ) (r : Route) → WrittenFits seq width (Some r) → RouteFits width r
route_columns seq width (route.Merge keys) h = tt
route_columns seq width route.Same h = tt
route_columns seq width route.RoundRobin h = tt
route_columns seq width route.Entire h = tt
route_columns seq width (route.Hash columns) h = h.1
route_columns seq width (route.Modulus column) h = h.1
route_columns seq width route.Any h = tt
route_columns seq width route.Ordered h = tt

pub route_stands : (seq : Bool) (width : ℕ) (r : Route) → WrittenFits seq width (Some r) → may_stand seq r ≡ true
route_stands seq width (route.Merge keys) h = ap (λ s. may_stand s (route.Merge keys)) h.0
route_stands seq width route.Same h = h.0
route_stands seq width route.RoundRobin h = h.0
route_stands seq width route.Entire h = h.0
route_stands seq width (route.Hash columns) h = h.0
route_stands seq width (route.Modulus column) h = h.0
route_stands seq width route.Any h = h.0
route_stands seq width route.Ordered h = h.0

-- the meaning of a flow has no choice in it
pub means_by : (c : Chart) (choice : ℕ → Choice) (ops : ℕ → Op) (whole : ℕ → List Row) → AllByRecursion (Means whole) (nodes_of c ops) → AllByRecursion (Means whole) (nodes_by c choice ops)
means_by c choice ops whole h =
    over (Means whole) (Means whole) (node_at c ops) (node_by c choice ops) c.order
    (λ o i m. over (λ (q : Out). whole q.link ≡ result (ops o) q.port (map whole (links_into c o))) (λ (q : Out). whole q.link ≡ result (ops o) q.port (map whole (links_into c o))) (out_at c) (out_by c choice) (links_from c o) (λ l j e. e) m) h

-- nor have the inputs and columns of its operators, but for the columns of routes
pub shaped_by : (c : Chart) (choices : List Choice) (ops : ℕ → Op) → AreChoices c choices → AllByRecursion (FitsShape (width_at c)) (nodes_of c ops) → AllByRecursion (FitsShape (width_at c)) (nodes_by c (choice_of choices) ops)
shaped_by c choices ops are h = over (FitsShape (width_at c)) (FitsShape (width_at c)) (node_at c ops) (node_by c (choice_of choices) ops) c.order (λ o i f. one o f) h
  where
    one : (o : ℕ) → FitsShape (width_at c) (node_at c ops o) → FitsShape (width_at c) (node_by c (choice_of choices) ops o)
    one o f = (
      f.0,
      f.1,
      f.2,
      f.3,
      over (λ (q : Out). (width_at c q.link ≡ f.0 q.port) × HasPort (ops o) q.port × RouteFits (width_at c q.link) q.route) (λ (q : Out). (width_at c q.link ≡ f.0 q.port) × HasPort (ops o) q.port × RouteFits (width_at c q.link) q.route)
          (out_at c) (out_by c (choice_of choices)) (links_from c o) (λ l j e. (e.0, e.1, route_columns (into_seq c l) (width_at c l) (choice_of choices l).method (are.routes l (leaves_it c o l j).1))) f.4,
    )

links_are : (c : Chart) (choice : ℕ → Choice) (ls : List ℕ) → links (map (out_by c choice) ls) ≡ ls
links_are c choice [] = refl
links_are c choice (l ∷ ls) = ap (λ ks. l ∷ ks) (links_are c choice ls)

forward_from : (c : Chart) (choice : ℕ → Choice) (ops : ℕ → Op) (order seen : List ℕ) → ForwardOrder c seen order → Forward seen (map (node_by c choice ops) order)
forward_from c choice ops [] seen f = tt
forward_from c choice ops (o ∷ order) seen f = (f.0, subst (λ ls. Forward (ls ++ seen) (map (node_by c choice ops) order)) (sym (links_are c choice (links_from c o))) (forward_from c choice ops order (links_from c o ++ seen) f.1))

pub forward_by : (c : Chart) (choice : ℕ → Choice) (ops : ℕ → Op) → IsShape c → Forward [] (nodes_by c choice ops)
forward_by c choice ops s = forward_from c choice ops c.order [] s.order.forward

marked_at : (P : ℕ → Type 0) (ls : List ℕ) (i : ℕ) → i < length ls → AllByRecursion P ls → P (get_or ls i 0)
marked_at P [] i l h = absurd (omega arith)
marked_at P (x ∷ ls) zero l h = h.0
marked_at P (x ∷ ls) (suc i) l h = marked_at P ls i (omega arith) h.1

each_of : (P : ℕ → Type 0) (n a k : ℕ) → a + k ≡ n → ((i : ℕ) → i < n → P i) → AllByRecursion P (range_with_len a k)
each_of P n a zero e h = tt
each_of P n a (suc k) e h = (h a (omega arith), each_of P n (a + 1) k (omega arith) h)

-- the link at an input
into_at : (c : Chart) (o i : ℕ) → i < length (links_into c o) → ((link_at c (get_or (links_into c o) i 0)).to ≡ o) × (get_or (links_into c o) i 0 < 0 + length c.flow.links)
into_at c o i h = marked_at (λ k. ((link_at c k).to ≡ o) × (k < 0 + length c.flow.links)) (links_into c o) i h (marked (λ k. (link_at c k).to) o 0 (length c.flow.links))

inserted_from : (sorts : ℕ → Option (List Key)) (op : Op) (i : ℕ) (ins : List ℕ) → ((j k : ℕ) → j < length ins → k ≡ i + j → (sorts (get_or ins j 0) ≡ None) ⊎ (sorts (get_or ins j 0) ≡ sort_key (form op) k)) → InsertedFrom sorts op i ins
inserted_from sorts op i [] h = tt
inserted_from sorts op i (l ∷ ins) h = (h 0 i (omega arith) (omega arith), inserted_from sorts op (suc i) ins (λ j k b e. h (suc j) k (omega arith) (omega arith)))

below : (k l : ℕ) → l < 0 + k → l < k
below k l h = omega arith

module _ (regains : Bool) (c : Chart) (states : List State) (choices : List Choice) (ops : ℕ → Op) where
  pub inserted_by : AreChoices c choices → ((o : ℕ) → IsIn o c.order → PortsInOrder c o) → FormsAre c ops → AllByRecursion (λ (n : Node). InsertedFrom (sort_by choices) n.op 0 n.ins) (nodes_by c (choice_of choices) ops)
  inserted_by are ports forms = all_mapped (λ (n : Node). InsertedFrom (sort_by choices) n.op 0 n.ins) (node_by c (choice_of choices) ops) c.order (λ o i. inserted_from (sort_by choices) (ops o) 0 (links_into c o) (at o i))
    where
      at : (o : ℕ) → IsIn o c.order → (j k : ℕ) → j < length (links_into c o) → k ≡ 0 + j → (sort_by choices (get_or (links_into c o) j 0) ≡ None) ⊎ (sort_by choices (get_or (links_into c o) j 0) ≡ sort_key (form (ops o)) k)
      at o i j k b e =
          let l = get_or (links_into c o) j 0 in
          let m = into_at c o j b in
          let is : j ≡ k = omega (arith, e) in
          let port : (link_at c l).port ≡ k = ports o i j b ∙ is in
          subst (λ f. (sort_by choices l ≡ None) ⊎ (sort_by choices l ≡ sort_key f k)) (ap (form_at c) m.0 ∙ sym (forms o i))
          (subst (λ p. (sort_by choices l ≡ None) ⊎ (sort_by choices l ≡ sort_key (form_at c (link_at c l).to) p)) port (are.sorts l (below (length c.flow.links) l m.1)))

  -- the state of what a node puts on a link
  same_output : (o l : ℕ) → form (ops o) ≡ form_at c o → (link_at c l).from ≡ o → output_at regains c states l ≡ output_state regains (width_at c) (state_at states) (node_by c (choice_of choices) ops o) (out_by c (choice_of choices) l)
  same_output o l f e =
      subst (λ p. output_at regains c states l ≡ refined regains (width_at c l) (derived p (link_at c l).out (map (state_at states) (links_into c o)))) (sym f)
      (ap (λ p. refined regains (width_at c l) (derived (form_at c p) (link_at c l).out (map (state_at states) (links_into c p)))) e)

  pub derives_by : AreStatesBy regains c choices states → FormsAre c ops → AllByRecursion (Derives regains (width_at c) (sort_by choices) (state_at states)) (nodes_by c (choice_of choices) ops)
  derives_by s forms = all_mapped (Derives regains (width_at c) (sort_by choices) (state_at states)) (node_by c (choice_of choices) ops) c.order (λ o i. all_mapped (Given o) (out_by c (choice_of choices)) (links_from c o) (λ l j. at o l (forms o i) (leaves_it c o l j)))
    where
      Given : ℕ → Out → Type 0
      Given o q = state_at states q.link ≡ refined regains (width_at c q.link) (sorted_state (sort_by choices q.link) (routed_state q.sequential q.route (output_state regains (width_at c) (state_at states) (node_by c (choice_of choices) ops o) q)))

      at : (o l : ℕ) → form (ops o) ≡ form_at c o → ((link_at c l).from ≡ o) × (l < length c.flow.links) → Given o (out_by c (choice_of choices) l)
      at o l f h = s.derived l h.1 ∙ ap (λ t. refined regains (width_at c l) (sorted_state (sort_by choices l) (routed_state (into_seq c l) (choice_of choices l).method t))) (same_output o l f h.0)

  none_with : (s : State) (parts : List Need) → with_state s parts ≡ [] → parts ≡ []
  none_with s parts e = map_nothing (λ (part : Need). (part, s)) parts e

  pub meets_by : AcceptedBy regains c states choices → ((o : ℕ) → IsIn o c.order → PortsInOrder c o) → FormsAre c ops → AllByRecursion (Accepted regains (width_at c) (state_at states)) (nodes_by c (choice_of choices) ops)
  meets_by a ports forms = all_mapped (Accepted regains (width_at c) (state_at states)) (node_by c (choice_of choices) ops) c.order (λ o i. (
    each_of (λ j. missed (form (ops o)) (map (state_at states) (links_into c o)) j ≡ []) (length (links_into c o)) 0 (length (links_into c o)) (omega arith) (inputs o i),
    all_mapped (λ (q : Out). route_missed q.route (output_state regains (width_at c) (state_at states) (node_by c (choice_of choices) ops o) q) ≡ []) (out_by c (choice_of choices)) (links_from c o) (λ l j. route_met o l (forms o i) (leaves_it c o l j)),
  ))
    where
      both : (l : ℕ) → l < length c.flow.links → (with_state (output_at regains c states l) (route_missed (choice_of choices l).method (output_at regains c states l)) ≡ []) × (with_state (state_at states l) (missed (form_at c (link_at c l).to) (map (state_at states) (links_into c (link_at c l).to)) (link_at c l).port) ≡ [])
      both l h = both_nothing (with_state (output_at regains c states l) (route_missed (choice_of choices l).method (output_at regains c states l))) (with_state (state_at states l) (missed (form_at c (link_at c l).to) (map (state_at states) (links_into c (link_at c l).to)) (link_at c l).port)) (a.none l h)

      route_met : (o l : ℕ) → form (ops o) ≡ form_at c o → ((link_at c l).from ≡ o) × (l < length c.flow.links) → route_missed (choice_of choices l).method (output_state regains (width_at c) (state_at states) (node_by c (choice_of choices) ops o) (out_by c (choice_of choices) l)) ≡ []
      route_met o l f h = subst (λ t. route_missed (choice_of choices l).method t ≡ []) (same_output o l f h.0) (none_with (output_at regains c states l) (route_missed (choice_of choices l).method (output_at regains c states l)) (both l h.1).0)

      inputs : (o : ℕ) → IsIn o c.order → (i : ℕ) → i < length (links_into c o) → missed (form (ops o)) (map (state_at states) (links_into c o)) i ≡ []
      inputs o there i h =
          let l = get_or (links_into c o) i 0 in
          let m = into_at c o i h in
          let none = none_with (state_at states l) (missed (form_at c (link_at c l).to) (map (state_at states) (links_into c (link_at c l).to)) (link_at c l).port) (both l (below (length c.flow.links) l m.1)).1 in
          subst (λ p. missed p (map (state_at states) (links_into c o)) i ≡ []) (sym (forms o there))
          (subst (λ p. missed (form_at c o) (map (state_at states) (links_into c o)) p ≡ []) (ports o there i h)
          (subst (λ p. missed (form_at c p) (map (state_at states) (links_into c p)) (link_at c l).port ≡ []) m.0 none))
