use Rattle.std.proofs.Common.{◌≡◌, ◌≤◌, ◌<◌, ◌+◌, ◌++◌, ◌∷◌, [], ◌==◌, ◌||◌, ◌&&◌, not, ℕ, zero, suc, List, Bool, true, false, refl, sym, ap, ◌∙◌, arith, append_assoc, append-nil, cond, subst, ◌⊎◌, inl, inr}
use Rattle.std.specs.List.{list_all}
use Rattle.std.proofs.lemmas.Bool.{eqb-true, eqb-false}
use Rattle.flow_graph.specs.declared.flow.LinkSpec.{LinkSpec}
use Rattle.flow_shape.specs.Links.{joins, feeds, Way, OnCycle, is_done, is_ready, Follows, IsOrder}
use Rattle.flow_shape.specs.Lowest.{IsLowest}
use Rattle.flow_shape.specs.Laws.{OneOrder, OrderedIsFree}

-- how many of n aren't done
abbrev pub undone : ℕ → List ℕ → ℕ
undone zero done = 0
undone (suc n) done = cond (is_done done n) 0 1 + undone n done

pub and_parts : (x y : Bool) → (x && y) ≡ true → (x ≡ true) × (y ≡ true)
and_parts true y h = (refl, h)
and_parts false y h = cc

or_true : (x y : Bool) → y ≡ true → (x || y) ≡ true
or_true true y h = refl
or_true false y h = h

pub or_or : (x y : Bool) → (x || y) ≡ true → (x ≡ true) ⊎ (y ≡ true)
or_or true y h = inl refl
or_or false y h = inr h

or_none : (x : Bool) → (x || false) ≡ (false || x)
or_none true = refl
or_none false = refl

or_assoc : (x y z : Bool) → (x || (y || z)) ≡ ((x || y) || z)
or_assoc true y z = refl
or_assoc false y z = refl

pub done_more : (done : List ℕ) (i j : ℕ) → is_done (done ++ i ∷ []) j ≡ (is_done done j || (i == j))
done_more [] i j = or_none (i == j)
done_more (x ∷ done) i j = ap (λ y. (x == j) || y) (done_more done i j) ∙ or_assoc (x == j) (is_done done j) (i == j)

counted : (x y : Bool) → cond (x || y) 0 1 ≤ cond x 0 1
counted true y = omega arith
counted false true = omega arith
counted false false = omega arith

pub undone_more : (n : ℕ) (done : List ℕ) (i : ℕ) → undone n (done ++ i ∷ []) ≤ undone n done
undone_more zero done i = omega arith
undone_more (suc n) done i = rw (done_more done i n) (omega (arith, counted (is_done done n) (i == n), undone_more n done i))

less_by : (y : Bool) (n : ℕ) (done : List ℕ) (i : ℕ) → (i == n) ≡ y → i < suc n → is_done done i ≡ false → (i < n → undone n (done ++ i ∷ []) < undone n done) → undone (suc n) (done ++ i ∷ []) < undone (suc n) done
less_by true n done i y h e go =
    let same : i ≡ n = eqb-true i n y in
    let none : is_done done n ≡ false = subst (λ k. is_done done k ≡ false) same e in
    let more = undone_more n done i in
    rw (done_more done i n, none, y) (let k : 0 + undone n (done ++ i ∷ []) < 1 + undone n done = omega (arith, more) in k)
less_by false n done i y h e go =
    let apart : i < n = omega (arith, h, eqb-false i n y) in
    rw (done_more done i n) (omega (arith, counted (is_done done n) (i == n), go apart))

pub undone_less : (n : ℕ) (done : List ℕ) (i : ℕ) → i < n → is_done done i ≡ false → undone n (done ++ i ∷ []) < undone n done
undone_less zero done i h e = omega arith
undone_less (suc n) done i h e = less_by (i == n) n done i refl h e (λ k. undone_less n done i k e)

-- one more is done
pub follows_next : (n : ℕ) (links : List LinkSpec) (done : List ℕ) (i : ℕ) → IsLowest n (λ j. is_ready links done j ≡ true) i
    → ((more : List ℕ) → Follows n links done more → Follows n links [] (done ++ more)) → (more : List ℕ) → Follows n links (done ++ i ∷ []) more → Follows n links [] ((done ++ i ∷ []) ++ more)
follows_next n links done i low inv more f = subst (Follows n links []) (sym (append_assoc done (i ∷ []) more)) (inv (i ∷ more) (low, f))

pub follows_end : (n : ℕ) (links : List LinkSpec) (done : List ℕ) → ((j : ℕ) → j < n → is_ready links done j ≡ false)
    → ((more : List ℕ) → Follows n links done more → Follows n links [] (done ++ more)) → IsOrder n links done
follows_end n links done none inv = subst (Follows n links []) (append-nil done) (inv [] none)

-- one order
pub same_lowest : (n : ℕ) (P : ℕ → Type 0) (i j : ℕ) → IsLowest n P i → IsLowest n P j → i ≡ j
same_lowest n P i j a b =
    let one : j < i → ⊥ = λ h. a.2 j h b.1 in
    let two : i < j → ⊥ = λ h. b.2 i h a.1 in
    omega (arith, one, two)

one_from : (n : ℕ) (links : List LinkSpec) (done a b : List ℕ) → Follows n links done a → Follows n links done b → a ≡ b
one_from n links done [] [] f g = refl
one_from n links done [] (j ∷ b) f g = let e = f j g.0.0 in cc (sym e ∙ g.0.1)
one_from n links done (i ∷ a) [] f g = let e = g i f.0.0 in cc (sym e ∙ f.0.1)
one_from n links done (i ∷ a) (j ∷ b) f g =
    let same = same_lowest n _ i j f.0 g.0 in
    ap (λ x. x ∷ a) same ∙ ap (λ l. j ∷ l) (one_from n links (done ++ j ∷ []) a b (subst (λ x. Follows n links (done ++ x ∷ []) a) same f.1) g.1)

pub one_order : OneOrder
one_order n links a b f g = one_from n links [] a b f g

-- what is done is on no cycle
pub longer : (links : List LinkSpec) (c i b m : ℕ) → feeds links c i ≡ true → Way links i b m → Way links c b (suc m)
longer links c i b zero f w = (c, refl, subst (λ x. feeds links c x ≡ true) w f)
longer links c i b (suc m) f w = (w.0, longer links c i w.0 m f w.1, w.2)

or_not : (x y : Bool) → (not x || y) ≡ true → x ≡ true → y ≡ true
or_not true y h e = h
or_not false y h e = cc

fed_one : (l : LinkSpec) (done : List ℕ) (c i : ℕ) → (not (l.to == i) || is_done done l.from) ≡ true → joins c i l ≡ true → is_done done c ≡ true
fed_one l done c i h j =
    let parts = and_parts (l.from == c) (l.to == i) j in
    subst (λ x. is_done done x ≡ true) (eqb-true l.from c parts.0) (or_not (l.to == i) (is_done done l.from) h parts.1)

pub fed : (links : List LinkSpec) (done : List ℕ) (c i : ℕ) → list_all (λ l. not (l.to == i) || is_done done l.from) links ≡ true → feeds links c i ≡ true → is_done done c ≡ true
fed [] done c i h f = cc
fed (l ∷ links) done c i h f =
    let parts = and_parts (not (l.to == i) || is_done done l.from) _ h in
    elim (or_or (joins c i l) (feeds links c i) f) [ inl j ↦ fed_one l done c i parts.0 j | inr j ↦ fed links done c i parts.1 j ]

free_ready : (links : List LinkSpec) (done : List ℕ) (x : ℕ) → is_ready links done x ≡ true → ((i : ℕ) → is_done done i ≡ true → OnCycle links i → ⊥) → OnCycle links x → ⊥
free_ready links done x r free cycle =
    let parts = and_parts (not (is_done done x)) _ r in
    let way = cycle.1 in
    let c = way.0 in
    free c (fed links done c x parts.1 way.2) (cycle.0, longer links c x c cycle.0 way.2 way.1)

free_next : (links : List LinkSpec) (done : List ℕ) (x : ℕ) → is_ready links done x ≡ true → ((i : ℕ) → is_done done i ≡ true → OnCycle links i → ⊥)
    → (i : ℕ) → is_done (done ++ x ∷ []) i ≡ true → OnCycle links i → ⊥
free_next links done x r free i d cycle = elim (or_or (is_done done i) (x == i) (sym (done_more done x i) ∙ d)) [
  | inl e ↦ free i e cycle
  | inr e ↦ free_ready links done x r free (subst (OnCycle links) (sym (eqb-true x i e)) cycle)
]

free_more : (n : ℕ) (links : List LinkSpec) (done more : List ℕ) → Follows n links done more → ((i : ℕ) → is_done done i ≡ true → OnCycle links i → ⊥)
    → (i : ℕ) → is_done (done ++ more) i ≡ true → OnCycle links i → ⊥
free_more n links done [] f free i d = free i (subst (λ l. is_done l i ≡ true) (append-nil done) d)
free_more n links done (x ∷ more) f free i d =
    free_more n links (done ++ x ∷ []) more f.1 (free_next links done x f.0.1 free) i (subst (λ l. is_done l i ≡ true) (sym (append_assoc done (x ∷ []) more)) d)

pub ordered_is_free : OrderedIsFree
ordered_is_free n links order i f d cycle = free_more n links [] order f (λ j e. cc) i d cycle

undone_by : (x y : Bool) → (not x && y) ≡ true → x ≡ false
undone_by true y h = cc
undone_by false y h = refl

pub ready_undone : (links : List LinkSpec) (done : List ℕ) (i : ℕ) → is_ready links done i ≡ true → is_done done i ≡ false
ready_undone links done i h = undone_by (is_done done i) _ h
