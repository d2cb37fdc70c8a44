-- A shaped flow has one meaning.
use Rattle.std.proofs.Common.{◌≡◌, ℕ, zero, suc, ◌+◌, ◌<◌, ◌≤◌, inl, inr, List, [], ◌∷◌, map, refl, sym, ap, ◌∙◌, subst, arith, length}
use Rattle.op_base.specs.Columns.{IsIn, Row}
use Rattle.flow_graph.specs.Charts.{Chart, link_at, all_links, links_into, links_from}
use Rattle.flow_graph.specs.FlowShape.{IsShape}
use Rattle.flow_graph.specs.Operators.{Op, result}
use Rattle.flow_graph.specs.Runs.{Means, Out}
use Rattle.flow_sound.specs.Promise.{HasMeaning, HasOneMeaning}
use Rattle.flow_sound.proofs.Members.{below_range, range_has, same_map}
use Rattle.flow_sound.proofs.Order.{all_nodes, all_outs, along_order, leaves_it, node_has, out_has}

-- what a link's producer gives on it, by those of the links into that one, n operators back
within : Chart → (ℕ → Op) → ℕ → ℕ → List Row
within c ops zero l = []
within c ops (suc n) l = result (ops (link_at c l).from) (link_at c l).out (map (within c ops n) (links_into c (link_at c l).from))

one_more : (c : Chart) (ops : ℕ → Op) (n l : ℕ) → within c ops (suc n) l ≡ result (ops (link_at c l).from) (link_at c l).out (map (within c ops n) (links_into c (link_at c l).from))
unfolding within
one_more c ops n l = refl

-- looking further back than k operators changes nothing
abbrev Settles : (ℕ → ℕ → List Row) → ℕ → ℕ → Type 0
Settles lists k l = (m n : ℕ) → k ≤ m → k ≤ n → lists m l ≡ lists n l

both_settle : (lists : ℕ → ℕ → List Row) (x : ℕ) (ls : List ℕ) → ((k : ℕ) × Settles lists k x) → ((k : ℕ) × ((l : ℕ) → IsIn l ls → Settles lists k l)) → (k : ℕ) × ((l : ℕ) → IsIn l (x ∷ ls) → Settles lists k l)
both_settle lists x ls a b = (a.0 + b.0, go)
  where
    go : (l : ℕ) → IsIn l (x ∷ ls) → Settles lists (a.0 + b.0) l
    go l (inl e) m n p q = subst (λ y. lists m y ≡ lists n y) (sym e) (a.1 m n (omega arith) (omega arith))
    go l (inr i) m n p q = b.1 l i m n (omega arith) (omega arith)

all_settle : (lists : ℕ → ℕ → List Row) (ls : List ℕ) → ((l : ℕ) → IsIn l ls → (k : ℕ) × Settles lists k l) → (k : ℕ) × ((l : ℕ) → IsIn l ls → Settles lists k l)
all_settle lists [] h = (0, λ l i. absurd i)
all_settle lists (x ∷ ls) h = both_settle lists x ls (h x (inl refl)) (all_settle lists ls (λ l i. h l (inr i)))

settles_next : (c : Chart) (ops : ℕ → Op) (o k l : ℕ) → (link_at c l).from ≡ o → ((i : ℕ) → IsIn i (links_into c o) → Settles (within c ops) k i) → Settles (within c ops) (suc k) l
settles_next c ops o k l e h zero n p q = absurd (omega arith)
settles_next c ops o k l e h (suc m) zero p q = absurd (omega arith)
settles_next c ops o k l e h (suc m) (suc n) p q =
    one_more c ops m l
    ∙ ap (result (ops (link_at c l).from) (link_at c l).out) (same_map (within c ops m) (within c ops n) (links_into c (link_at c l).from) (λ i j. h i (subst (λ p. IsIn i (links_into c p)) e j) m n (omega arith) (omega arith)))
    ∙ sym (one_more c ops n l)

each_settles : (c : Chart) (ops : ℕ → Op) → IsShape c → (l : ℕ) → l < length c.flow.links → (k : ℕ) × Settles (within c ops) k l
each_settles c ops s = along_order (λ l. (k : ℕ) × Settles (within c ops) k l) c s (λ o i h l j. let k = all_settle (within c ops) (links_into c o) h in (suc k.0, settles_next c ops o k.0 l (leaves_it c o l j).0 k.1))

all_links_settle : (c : Chart) (ops : ℕ → Op) → IsShape c → (k : ℕ) × ((l : ℕ) → IsIn l (all_links c) → Settles (within c ops) k l)
all_links_settle c ops s = all_settle (within c ops) (all_links c) (λ l i. each_settles c ops s l (below_range (length c.flow.links) l i))

pub has_meaning : HasMeaning
has_meaning c ops s = (whole, all_nodes (Means whole) c ops (λ o i. all_outs (λ (q : Out). whole q.link ≡ result (ops o) q.port (map whole (links_into c o))) c o (means o)))
  where
    k : (k : ℕ) × ((l : ℕ) → IsIn l (all_links c) → Settles (within c ops) k l)
    k = all_links_settle c ops s

    whole : ℕ → List Row
    whole = within c ops k.0

    means : (o l : ℕ) → IsIn l (links_from c o) → whole l ≡ result (ops o) (link_at c l).out (map whole (links_into c o))
    means o l j =
        let from = leaves_it c o l j in
        k.1 l (range_has (length c.flow.links) l from.1) k.0 (suc k.0) (omega arith) (omega arith)
        ∙ one_more c ops k.0 l
        ∙ ap (λ p. result (ops p) (link_at c l).out (map whole (links_into c p))) from.0

pub has_one_meaning : HasOneMeaning
has_one_meaning c ops v w s h k = along_order (λ l. v l ≡ w l) c s step
  where
    step : (o : ℕ) → IsIn o c.order → ((l : ℕ) → IsIn l (links_into c o) → v l ≡ w l) → (l : ℕ) → IsIn l (links_from c o) → v l ≡ w l
    step o i e l j =
        out_has (λ (q : Out). v q.link ≡ result (ops o) q.port (map v (links_into c o))) c o l (node_has (Means v) c ops o h i) j
        ∙ ap (result (ops o) (link_at c l).out) (same_map v w (links_into c o) e)
        ∙ sym (out_has (λ (q : Out). w q.link ≡ result (ops o) q.port (map w (links_into c o))) c o l (node_has (Means w) c ops o k i) j)
