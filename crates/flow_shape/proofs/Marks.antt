use Rattle.std.proofs.Common.{◌≡◌, ◌≤◌, ◌<◌, ◌+◌, ◌∷◌, [], ◌==◌, ◌||◌, ◌&&◌, not, ℕ, zero, suc, List, Bool, true, false, Option, Some, None, refl, sym, ap, ◌∙◌, arith, length, get_or, set, cond, subst, nat_lt, position, ◌⊎◌, inl, inr}
use Rattle.std.specs.List.{list_any, prefix_len}
use Rattle.std.proofs.lemmas.Bool.{eqb-true, eq-eqb, ltb-false}
use Rattle.std.proofs.lemmas.List.Quantifiers.{position-Some}
use Rattle.flow_graph.specs.declared.flow.LinkSpec.{LinkSpec}
use Rattle.flow_shape.specs.Links.{joins, feeds, Way, Reaches, AreWithin, is_open}
use Rattle.flow_shape.proofs.Orders.{and_parts, or_or}

-- how many aren't marked
abbrev pub unmarked : List Bool → ℕ
unmarked [] = 0
unmarked (m ∷ marks) = cond m 0 1 + unmarked marks

pub unmarked_less : (marks : List Bool) (t : ℕ) → get_or marks t true ≡ false → unmarked (set marks t true) < unmarked marks
unmarked_less [] t h = cc
unmarked_less (m ∷ marks) zero h = rw h (let k : 0 + unmarked marks < 1 + unmarked marks = omega arith in k)
unmarked_less (m ∷ marks) (suc t) h = omega (arith, unmarked_less marks t h)

pub within_marks : (marks : List Bool) (t : ℕ) → get_or marks t true ≡ false → t < length marks
within_marks [] t h = cc
within_marks (m ∷ marks) zero h = omega arith
within_marks (m ∷ marks) (suc t) h = omega (arith, within_marks marks t h)

set_marked : (marks : List Bool) (t v : ℕ) → get_or (set marks t true) v false ≡ true → (v ≡ t) ⊎ (get_or marks v false ≡ true)
set_marked [] t v h = cc
set_marked (m ∷ marks) zero zero h = inl refl
set_marked (m ∷ marks) zero (suc v) h = inr h
set_marked (m ∷ marks) (suc t) zero h = inr h
set_marked (m ∷ marks) (suc t) (suc v) h = elim (set_marked marks t v h) [ inl e ↦ inl (ap suc e) | inr e ↦ inr e ]

same_joins : (l : LinkSpec) → joins l.from l.to l ≡ true
same_joins l = rw (eq-eqb l.from l.from refl, eq-eqb l.to l.to refl) refl

pub or_left : (x y : Bool) → x ≡ true → (x || y) ≡ true
or_left x y h = rw h refl

pub or_right : (x y : Bool) → y ≡ true → (x || y) ≡ true
or_right true y h = refl
or_right false y h = h

pub feeds_at : (links : List LinkSpec) (k : ℕ) (d : LinkSpec) → k < length links → feeds links (get_or links k d).from (get_or links k d).to ≡ true
feeds_at [] k d h = absurd (omega arith)
feeds_at (l ∷ links) zero d h = or_left (joins l.from l.to l) _ (same_joins l)
feeds_at (l ∷ links) (suc k) d h = or_right (joins (get_or links k d).from (get_or links k d).to l) _ (feeds_at links k d (let e : k < length links = omega arith in e))

-- the end of an open link is reached
reached_end : (links : List LinkSpec) (start : ℕ) (marks : List Bool) (l : LinkSpec) → feeds links l.from l.to ≡ true → ((l.from == start) || get_or marks l.from false) ≡ true
    → ((v : ℕ) → get_or marks v false ≡ true → Reaches links start v) → Reaches links start l.to
reached_end links start marks l f b sound = elim (or_or (l.from == start) (get_or marks l.from false) b) [
  | inl e ↦ (0, (l.from, sym (eqb-true l.from start e), f))
  | inr e ↦ (let r = sound l.from e in (suc r.0, (l.from, r.1, f)))
]

pub marked : (links : List LinkSpec) (start k : ℕ) (marks : List Bool) (d : LinkSpec) → k < length links → is_open start marks (get_or links k d) ≡ true
    → ((v : ℕ) → get_or marks v false ≡ true → Reaches links start v) → (v : ℕ) → get_or (set marks (get_or links k d).to true) v false ≡ true → Reaches links start v
marked links start k marks d within o sound v h =
    let l = get_or links k d in
    let parts = and_parts ((l.from == start) || get_or marks l.from false) _ o in
    elim (set_marked marks l.to v h) [
      | inl e ↦ subst (Reaches links start) (sym e) (reached_end links start marks l (feeds_at links k d within) parts.0 sound)
      | inr e ↦ sound v e
    ]

not_true : (x : Bool) → not x ≡ true → x ≡ false
not_true true h = cc
not_true false h = refl

pub open_end : (start : ℕ) (marks : List Bool) (l : LinkSpec) → is_open start marks l ≡ true → get_or marks l.to true ≡ false
open_end start marks l o = not_true _ (and_parts ((l.from == start) || get_or marks l.from false) _ o).1

pub open_at : (start : ℕ) (marks : List Bool) (links : List LinkSpec) (k : ℕ) (d : LinkSpec) → position (is_open start marks) links ≡ Some k → is_open start marks (get_or links k d) ≡ true
open_at start marks links k d e = (position-Some (is_open start marks) links k d e).1

none_by : {X : Type 0} (y : Bool) (p : X → Bool) (x : X) (xs : List X) → p x ≡ y → suc (length xs) ≤ cond (not y) (1 + prefix_len (λ x. not (p x)) xs) 0
    → (length xs ≤ prefix_len (λ x. not (p x)) xs → list_any p xs ≡ false) → (p x || list_any p xs) ≡ false
none_by true p x xs e h go = absurd (omega arith)
none_by false p x xs e h go = rw e (go (let k : length xs ≤ prefix_len (λ x. not (p x)) xs = omega arith in k))

none_any : {X : Type 0} (p : X → Bool) (xs : List X) → length xs ≤ prefix_len (λ x. not (p x)) xs → list_any p xs ≡ false
none_any p [] h = refl
none_any p (x ∷ xs) h = none_by (p x) p x xs refl h (none_any p xs)

none_len : (y : Bool) (m n : ℕ) → nat_lt m n ≡ y → (let r : Option ℕ = cond y (Some m) None in r) ≡ None → n ≤ m
none_len true m n h e = cc
none_len false m n h e = ltb-false m n h

pub none_open : (start : ℕ) (marks : List Bool) (links : List LinkSpec) → position (is_open start marks) links ≡ None → list_any (is_open start marks) links ≡ false
none_open start marks links e = none_any (is_open start marks) links (none_len (nat_lt (prefix_len (λ l. not (is_open start marks l)) links) (length links)) _ _ refl e)

or_false : (x y : Bool) → (x || y) ≡ false → (x ≡ false) × (y ≡ false)
or_false true y h = cc
or_false false y h = (refl, h)

past_end : (marks : List Bool) (v : ℕ) → v < length marks → get_or marks v true ≡ true → get_or marks v false ≡ true
past_end [] v h e = absurd (omega arith)
past_end (m ∷ marks) zero h e = e
past_end (m ∷ marks) (suc v) h e = past_end marks v (let k : v < length marks = omega arith in k) e

and_true : (x : Bool) → (x && true) ≡ x
and_true true = refl
and_true false = refl

and_not : (x y : Bool) → (x && not y) ≡ false → x ≡ true → y ≡ true
and_not x true h e = refl
and_not x false h e = let k : x ≡ false = sym (and_true x) ∙ h in cc (sym k ∙ e)

one_closed : (start : ℕ) (marks : List Bool) (l : LinkSpec) (c v : ℕ) → is_open start marks l ≡ false → l.to < length marks → joins c v l ≡ true → ((c == start) || get_or marks c false) ≡ true → get_or marks v false ≡ true
one_closed start marks l c v none w j b =
    let parts = and_parts (l.from == c) (l.to == v) j in
    let from : c ≡ l.from = sym (eqb-true l.from c parts.0) in
    let begins : ((l.from == start) || get_or marks l.from false) ≡ true = subst (λ x. ((x == start) || get_or marks x false) ≡ true) from b in
    subst (λ x. get_or marks x false ≡ true) (eqb-true l.to v parts.1) (past_end marks l.to w (and_not _ (get_or marks l.to true) none begins))

-- where no link is open, a link from what is reached leads to what is marked
step_closed : (start : ℕ) (marks : List Bool) (links : List LinkSpec) (c v : ℕ) → list_any (is_open start marks) links ≡ false → AreWithin (length marks) links → feeds links c v ≡ true
    → ((c == start) || get_or marks c false) ≡ true → get_or marks v false ≡ true
step_closed start marks [] c v none w f b = cc
step_closed start marks (l ∷ links) c v none w f b =
    let parts = or_false (is_open start marks l) _ none in
    elim (or_or (joins c v l) (feeds links c v) f) [
      | inl j ↦ one_closed start marks l c v parts.0 w.0.1 j b
      | inr j ↦ step_closed start marks links c v parts.1 w.1 j b
    ]

pub all_reached : (start : ℕ) (marks : List Bool) (links : List LinkSpec) → list_any (is_open start marks) links ≡ false → AreWithin (length marks) links → (n v : ℕ) → Way links start v (suc n) → get_or marks v false ≡ true
all_reached start marks links none w zero v way = step_closed start marks links way.0 v none w way.2 (or_left (way.0 == start) _ (eq-eqb way.0 start (sym way.1)))
all_reached start marks links none w (suc n) v way = step_closed start marks links way.0 v none w way.2 (or_right (way.0 == start) _ (all_reached start marks links none w n way.0 way.1))
