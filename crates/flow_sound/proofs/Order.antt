-- The links of a shaped flow along its order: each leaves an operator of the order, and comes from before the operators that it leads into.
use Rattle.std.proofs.Common.{◌≡◌, ℕ, ◌+◌, ◌<◌, ◌==◌, true, ◌⊎◌, inl, inr, List, [], ◌∷◌, ◌++◌, map, refl, sym, ap, subst, arith, length}
use Rattle.std.specs.List.{AllByRecursion}
use Rattle.std.proofs.lemmas.Bool.Decides.{nat_tests}
use Rattle.op_base.specs.Columns.{IsIn}
use Rattle.flow_graph.specs.Charts.{Chart, link_at, all_links, links_into, links_from}
use Rattle.flow_graph.specs.FlowShape.{IsShape, ForwardOrder}
use Rattle.flow_graph.specs.Operators.{Op}
use Rattle.flow_graph.specs.Runs.{Node, Out, Forward, links}
use Rattle.flow_rules.specs.Verdicts.{out_at, node_at, nodes_of}
use Rattle.flow_derive.proofs.Fills.{marked}
use Rattle.flow_sound.proofs.Members.{all_mapped, at_in, in_all, in_either, in_filter, of_mapped, range_has}

-- a link that leaves an operator, or leads into one
pub leaves_it : (c : Chart) (o l : ℕ) → IsIn l (links_from c o) → ((link_at c l).from ≡ o) × (l < length c.flow.links)
leaves_it c o l i =
    let m = at_in (λ k. ((link_at c k).from ≡ o) × (k < 0 + length c.flow.links)) l (links_from c o) (marked (λ k. (link_at c k).from) o 0 (length c.flow.links)) i in
    let b = m.1 in (m.0, omega arith)

pub enters_it : (c : Chart) (o l : ℕ) → IsIn l (links_into c o) → ((link_at c l).to ≡ o) × (l < length c.flow.links)
enters_it c o l i =
    let m = at_in (λ k. ((link_at c k).to ≡ o) × (k < 0 + length c.flow.links)) l (links_into c o) (marked (λ k. (link_at c k).to) o 0 (length c.flow.links)) i in
    let b = m.1 in (m.0, omega arith)

itself : (n : ℕ) → (n == n) ≡ true
itself n = grind (arith, nat_tests)

pub is_from : (c : Chart) (l : ℕ) → l < length c.flow.links → IsIn l (links_from c (link_at c l).from)
is_from c l h = in_filter (λ k. (link_at c k).from == (link_at c l).from) l (all_links c) (range_has (length c.flow.links) l h) (itself (link_at c l).from)

-- the producer of a link stands in the order
pub producer_in : (c : Chart) → IsShape c → (l : ℕ) → l < length c.flow.links → IsIn (link_at c l).from c.order
producer_in c s l h = in_all (length c.flow.ops) (link_at c l).from c.order s.order.once (s.links l h).from

-- What holds of the links that leave an operator where it holds of those that lead into it, holds of all links.
in_seen : (P : ℕ → Type 0) (c : Chart) (o : ℕ) (seen : List ℕ) → ((l : ℕ) → IsIn l (links_from c o) → P l) → ((l : ℕ) → IsIn l seen → P l) → (l : ℕ) → IsIn l (links_from c o) ⊎ IsIn l seen → P l
in_seen P c o seen h k l (inl i) = h l i
in_seen P c o seen h k l (inr i) = k l i

abbrev Step : (ℕ → Type 0) → Chart → ℕ → Type 0
Step P c o = ((l : ℕ) → IsIn l (links_into c o) → P l) → (l : ℕ) → IsIn l (links_from c o) → P l

along : (P : ℕ → Type 0) (c : Chart) (order seen : List ℕ) → ((o : ℕ) → IsIn o order → Step P c o) → ((l : ℕ) → IsIn l seen → P l) → ForwardOrder c seen order → (l : ℕ) → l < length c.flow.links → IsIn (link_at c l).from order → P l
along P c [] seen step h f l m i = absurd i
along P c (o ∷ order) seen step h f l m i = go (along P c order (links_from c o ++ seen) (λ p j. step p (inr j)) (λ k j. in_seen P c o seen here h k (in_either k (links_from c o) seen j)) f.1 l m) i
  where
    here : (k : ℕ) → IsIn k (links_from c o) → P k
    here = step o (inl refl) (λ k j. h k (at_in (λ d. IsIn d seen) k (links_into c o) f.0 j))

    go : (IsIn (link_at c l).from order → P l) → IsIn (link_at c l).from (o ∷ order) → P l
    go rec (inl e) = here l (subst (λ p. IsIn l (links_from c p)) e (is_from c l m))
    go rec (inr j) = rec j

pub along_order : (P : ℕ → Type 0) (c : Chart) → IsShape c → ((o : ℕ) → IsIn o c.order → ((l : ℕ) → IsIn l (links_into c o) → P l) → (l : ℕ) → IsIn l (links_from c o) → P l) → (l : ℕ) → l < length c.flow.links → P l
along_order P c s step l m = along P c c.order [] step (λ k j. absurd j) s.order.forward l m (producer_in c s l m)

-- the operators of a flow
pub all_nodes : (P : Node → Type 0) (c : Chart) (ops : ℕ → Op) → ((o : ℕ) → IsIn o c.order → P (node_at c ops o)) → AllByRecursion P (nodes_of c ops)
all_nodes P c ops h = all_mapped P (node_at c ops) c.order h

pub node_has : (P : Node → Type 0) (c : Chart) (ops : ℕ → Op) (o : ℕ) → AllByRecursion P (nodes_of c ops) → IsIn o c.order → P (node_at c ops o)
node_has P c ops o h i = of_mapped P (node_at c ops) o c.order h i

pub all_outs : (P : Out → Type 0) (c : Chart) (o : ℕ) → ((l : ℕ) → IsIn l (links_from c o) → P (out_at c l)) → AllByRecursion P (map (out_at c) (links_from c o))
all_outs P c o h = all_mapped P (out_at c) (links_from c o) h

pub out_has : (P : Out → Type 0) (c : Chart) (o l : ℕ) → AllByRecursion P (map (out_at c) (links_from c o)) → IsIn l (links_from c o) → P (out_at c l)
out_has P c o l h i = of_mapped P (out_at c) l (links_from c o) h i

links_are : (c : Chart) (ls : List ℕ) → links (map (out_at c) ls) ≡ ls
links_are c [] = refl
links_are c (l ∷ ls) = ap (λ ks. l ∷ ks) (links_are c ls)

forward_from : (c : Chart) (ops : ℕ → Op) (order seen : List ℕ) → ForwardOrder c seen order → Forward seen (map (node_at c ops) order)
forward_from c ops [] seen f = tt
forward_from c ops (o ∷ order) seen f = (f.0, subst (λ ls. Forward (ls ++ seen) (map (node_at c ops) order)) (sym (links_are c (links_from c o))) (forward_from c ops order (links_from c o ++ seen) f.1))

pub goes_forward : (c : Chart) (ops : ℕ → Op) → IsShape c → Forward [] (nodes_of c ops)
goes_forward c ops s = forward_from c ops c.order [] s.order.forward
