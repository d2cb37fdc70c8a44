-- The order of a shaped flow goes forward, and has the producer of each link.
use Rattle.std.proofs.Common.{◌≡◌, ◌<◌, ◌==◌, ℕ, true, inl, inr, List, [], ◌∷◌, ◌++◌, map, refl, sym, ap, subst, length}
use Rattle.std.proofs.lemmas.Bool.{eqb-true}
use Rattle.op_base.specs.Columns.{IsIn}
use Rattle.flow_graph.specs.Charts.{Chart, link_at, links_from}
use Rattle.flow_graph.specs.declared.flow.Flow.{Flow}
use Rattle.flow_graph.specs.declared.flow.LinkSpec.{LinkSpec}
use Rattle.flow_graph.specs.declared.parts.Stored.{Stored}
use Rattle.flow_graph.specs.FlowShape.{CoversLinks, ForwardOrder}
use Rattle.flow_graph.specs.Operators.{Op}
use Rattle.flow_graph.specs.Runs.{Forward, links}
use Rattle.flow_rules.specs.Verdicts.{node_at, nodes_of, out_at}
use Rattle.flow_shape.specs.Links.{AreWithin, Follows, IsOrder, is_done}
use Rattle.flow_shape.specs.Refusals.{IsShapeOf}
use Rattle.flow_shape.specs.Spelled.{IsJoined}
use Rattle.flow_shape.proofs.Given.{ends}
use Rattle.flow_shape.proofs.Ordering.{order_forward}
use Rattle.flow_shape.proofs.Orders.{or_or}

done_in : (xs : List ℕ) (j : ℕ) → is_done xs j ≡ true → IsIn j xs
done_in [] j h = cc
done_in (x ∷ xs) j h = elim (or_or (x == j) (is_done xs j) h) [
  | inl e ↦ inl (sym (eqb-true x j e))
  | inr e ↦ inr (done_in xs j e)
]

below : (n : ℕ) (ls : List LinkSpec) (done order : List ℕ) (o : ℕ) → Follows n ls done order → IsIn o order → o < n
below n ls done [] o f i = absurd i
below n ls done (x ∷ order) o f (inl e) = subst (λ k. k < n) (sym e) f.0.0
below n ls done (x ∷ order) o f (inr i) = below n ls (done ++ x ∷ []) order o f.1 i

-- the order is that of the flow that the chart has
in_order : (flow : Flow) (dict : List Stored) (c : Chart) → IsShapeOf flow dict c → IsOrder (length c.flow.ops) c.flow.links c.order
in_order flow dict c s = subst (λ (f : Flow). IsOrder (length f.ops) f.links c.order) (sym s.same) s.order

pub ordered_below : (flow : Flow) (dict : List Stored) (c : Chart) → IsShapeOf flow dict c → (o : ℕ) → IsIn o c.order → o < length c.flow.ops
ordered_below flow dict c s o i = below (length c.flow.ops) c.flow.links [] c.order o (in_order flow dict c s) i

pub is_forward : (flow : Flow) (dict : List Stored) (c : Chart) → IsShapeOf flow dict c → ForwardOrder c [] c.order
is_forward flow dict c s = order_forward (length c.flow.ops) c c.order (in_order flow dict c s)

pub covers_links : (flow : Flow) (dict : List Stored) (c : Chart) → IsJoined flow → IsShapeOf flow dict c → CoversLinks c
covers_links flow dict c joined s l h =
    let within : AreWithin (length c.flow.ops) c.flow.links = subst (λ (f : Flow). AreWithin (length f.ops) f.links) (sym s.same) joined.within in
    let from = (ends c.flow l within h).0 in
    done_in c.order (link_at c l).from (s.whole (link_at c l).from (subst (λ (f : Flow). (link_at c l).from < length f.ops) s.same from))

links_are : (c : Chart) (ls : List ℕ) → links (map (out_at c) ls) ≡ ls
links_are c [] = refl
links_are c (l ∷ ls) = ap (λ ks. l ∷ ks) (links_are c ls)

forward_from : (c : Chart) (ops : ℕ → Op) (order seen : List ℕ) → ForwardOrder c seen order → Forward seen (map (node_at c ops) order)
forward_from c ops [] seen f = tt
forward_from c ops (o ∷ order) seen f = (f.0, subst (λ ls. Forward (ls ++ seen) (map (node_at c ops) order)) (sym (links_are c (links_from c o))) (forward_from c ops order (links_from c o ++ seen) f.1))

pub goes_forward : (flow : Flow) (dict : List Stored) (c : Chart) (ops : ℕ → Op) → IsShapeOf flow dict c → Forward [] (nodes_of c ops)
goes_forward flow dict c ops s = forward_from c ops c.order [] (is_forward flow dict c s)
