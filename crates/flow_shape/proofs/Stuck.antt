-- Where nothing is ready and something isn't done, an operator is on a cycle.
use Rattle.std.proofs.Common.{◌≡◌, ◌≤◌, ◌<◌, ◌+◌, ◌++◌, ◌∷◌, [], ◌==◌, ◌||◌, ◌&&◌, not, ℕ, zero, suc, List, Bool, true, false, refl, sym, ◌∙◌, arith, append_assoc, append-nil, subst, inl, inr}
use Rattle.std.specs.List.{list_all}
use Rattle.std.proofs.lemmas.Bool.{eqb-true, eq-eqb, eqb-false}
use Rattle.flow_graph.specs.declared.flow.LinkSpec.{LinkSpec}
use Rattle.flow_shape.specs.Links.{joins, feeds, Reaches, OnCycle, AreWithin, is_done, is_ready, Follows, IsOrder, IsWhole}
use Rattle.flow_shape.specs.Lowest.{HasNone}
use Rattle.flow_shape.proofs.Orders.{or_or, done_more, undone, undone_less, longer}
use Rattle.flow_shape.proofs.Marks.{or_left, or_right}

or_false : (x y : Bool) → (x || y) ≡ false → (x ≡ false) × (y ≡ false)
or_false true y h = cc
or_false false y h = (refl, h)

from_not : (x : Bool) → not x ≡ false → x ≡ true
from_not true h = refl
from_not false h = cc

pub record Producer (n : ℕ) (links : List LinkSpec) (done : List ℕ) (j : ℕ) : Type 0 where
  pub op : ℕ
  pub within : op < n
  pub feeds_it : feeds links op j ≡ true
  pub undone_yet : is_done done op ≡ false

producer_by : (y : Bool) (n : ℕ) (l : LinkSpec) (links : List LinkSpec) (done : List ℕ) (j : ℕ) → (not (l.to == j) || is_done done l.from) ≡ y
    → (y && list_all (λ l. not (l.to == j) || is_done done l.from) links) ≡ false → l.from < n → (list_all (λ l. not (l.to == j) || is_done done l.from) links ≡ false → Producer n links done j) → Producer n (l ∷ links) done j
producer_by true n l links done j e h w go = let p = go h in record { op = p.op; within = p.within; feeds_it = or_right (joins p.op j l) _ p.feeds_it; undone_yet = p.undone_yet }
producer_by false n l links done j e h w go =
    let parts = or_false (not (l.to == j)) _ e in
    record { op = l.from; within = w; feeds_it = or_left (joins l.from j l) _ (rw (eq-eqb l.from l.from refl, from_not (l.to == j) parts.0) refl); undone_yet = parts.1 }

producer_of : (n : ℕ) (links : List LinkSpec) (done : List ℕ) (j : ℕ) → AreWithin n links → list_all (λ l. not (l.to == j) || is_done done l.from) links ≡ false → Producer n links done j
producer_of n [] done j w h = cc
producer_of n (l ∷ links) done j w h = producer_by (not (l.to == j) || is_done done l.from) n l links done j refl h w.0.0 (λ e. producer_of n links done j w.1 e)

waiting : (x y : Bool) → (not x && y) ≡ false → x ≡ false → y ≡ false
waiting true y h e = cc
waiting false y h e = h

pub record Cycle (n : ℕ) (links : List LinkSpec) : Type 0 where
  pub op : ℕ
  pub within : op < n
  pub cycle : OnCycle links op

closes : (n : ℕ) (links : List LinkSpec) (visited : List ℕ) (v c : ℕ) → c < n → feeds links c v ≡ true → ((x : ℕ) → is_done visited x ≡ true → Reaches links v x) → is_done (visited ++ v ∷ []) c ≡ true → Cycle n links
closes n links visited v c w f r d = elim (or_or (is_done visited c) (v == c) (sym (done_more visited v c) ∙ d)) [
  | inl e ↦ (let way = r c e in record { op = c; within = w; cycle = (suc way.0, longer links c v c (suc way.0) f way.1) })
  | inr e ↦ record { op = c; within = w; cycle = (0, longer links c v c 0 f (eqb-true v c e)) }
]

reaches_more : (links : List LinkSpec) (visited : List ℕ) (v c : ℕ) → feeds links c v ≡ true → ((x : ℕ) → is_done visited x ≡ true → Reaches links v x) → (x : ℕ) → is_done (visited ++ v ∷ []) x ≡ true → Reaches links c x
reaches_more links visited v c f r x d = elim (or_or (is_done visited x) (v == x) (sym (done_more visited v x) ∙ d)) [
  | inl e ↦ (let way = r x e in (suc way.0, longer links c v x (suc way.0) f way.1))
  | inr e ↦ (0, longer links c v x 0 f (eqb-true v x e))
]

back_by : (y : Bool) (n : ℕ) (links : List LinkSpec) (visited : List ℕ) (v c : ℕ) → c < n → feeds links c v ≡ true → ((x : ℕ) → is_done visited x ≡ true → Reaches links v x) → is_done (visited ++ v ∷ []) c ≡ y
    → (is_done (visited ++ v ∷ []) c ≡ false → Cycle n links) → Cycle n links
back_by true n links visited v c w f r e go = closes n links visited v c w f r e
back_by false n links visited v c w f r e go = go e

-- go back from v to a producer that isn't done, until one was met before
back : (m n : ℕ) (links : List LinkSpec) (done visited : List ℕ) (v : ℕ) → ((j : ℕ) → j < n → is_ready links done j ≡ false) → AreWithin n links → v < n → is_done done v ≡ false → is_done visited v ≡ false
    → ((x : ℕ) → is_done visited x ≡ true → Reaches links v x) → undone n visited ≤ m → Cycle n links
back zero n links done visited v none w within d fresh r le = absurd (let less = undone_less n visited v within fresh in omega arith)
back (suc m) n links done visited v none w within d fresh r le =
    let p = producer_of n links done v w (waiting (is_done done v) _ (none v within) d) in
    let less = undone_less n visited v within fresh in
    back_by (is_done (visited ++ v ∷ []) p.op) n links visited v p.op p.within p.feeds_it r refl
    (λ e. back m n links done (visited ++ v ∷ []) p.op none w p.within p.undone_yet e (reaches_more links visited v p.op p.feeds_it r) (let k : undone n (visited ++ v ∷ []) ≤ m = omega arith in k))

last_of : (n : ℕ) (links : List LinkSpec) (done order : List ℕ) → Follows n links done order → (j : ℕ) → j < n → is_ready links (done ++ order) j ≡ false
last_of n links done [] f j h = subst (λ l. is_ready links l j ≡ false) (sym (append-nil done)) (f j h)
last_of n links done (x ∷ order) f j h = subst (λ l. is_ready links l j ≡ false) (append_assoc done (x ∷ []) order) (last_of n links (done ++ x ∷ []) order f.1 j h)

pub stuck : (n : ℕ) (links : List LinkSpec) (order : List ℕ) (j : ℕ) → IsOrder n links order → AreWithin n links → j < n → is_done order j ≡ false → Cycle n links
stuck n links order j f w h d = back (undone n []) n links order [] j (last_of n links [] order f) w h d refl (λ x e. cc) (let k : undone n [] ≤ undone n [] = omega arith in k)

whole_by : (y : Bool) (n : ℕ) (links : List LinkSpec) (order : List ℕ) (j : ℕ) → is_done order j ≡ y → IsOrder n links order → AreWithin n links → j < n → HasNone n (OnCycle links) → is_done order j ≡ true
whole_by true n links order j e f w h none = e
whole_by false n links order j e f w h none = let s = stuck n links order j f w h e in absurd (none s.op s.within s.cycle)

-- a flow without a cycle has a whole order
pub whole_order : (n : ℕ) (links : List LinkSpec) (order : List ℕ) → IsOrder n links order → AreWithin n links → HasNone n (OnCycle links) → IsWhole n order
whole_order n links order f w none j h = whole_by (is_done order j) n links order j refl f w h none

below_by : (y : Bool) (P : ℕ → Type 0) (i j : ℕ) → (j == i) ≡ y → ((k : ℕ) → k < i → P k → ⊥) → (P i → ⊥) → j < i + 1 → P j → ⊥
below_by true P i j e all one h p = one (subst P (eqb-true j i e) p)
below_by false P i j e all one h p = let apart = eqb-false j i e in let k : j < i = omega (arith, h, apart) in all j k p

pub below_more : (P : ℕ → Type 0) (i : ℕ) → ((k : ℕ) → k < i → P k → ⊥) → (P i → ⊥) → (j : ℕ) → j < i + 1 → P j → ⊥
below_more P i all one j h p = below_by (j == i) P i j refl all one h p
