-- A flow has one verdict: the equations of its states have one solution.
use Rattle.std.proofs.Common.{◌≡◌, ℕ, ◌+◌, ◌<◌, ◌==◌, Bool, true, false, ◌⊎◌, inl, inr, List, [], ◌∷◌, ◌++◌, map, refl, sym, ap, ap₂, ◌∙◌, subst, arith, length, ext_get_or}
use Rattle.std.specs.Prelude.{nat_lt}
use Rattle.std.specs.List.{AllByRecursion}
use Rattle.std.proofs.lemmas.Bool.Decides.{nat_tests}
use Rattle.op_base.specs.Columns.{IsIn, Lies}
use Rattle.flow_graph.specs.declared.state.State.{State}
use Rattle.flow_graph.specs.declared.route.Choice.{Choice}
use Rattle.flow_graph.specs.Charts.{Chart, link_at, width_at, links_into, links_from, into_seq, form_at}
use Rattle.flow_rules.specs.declared.need.Need.{Need}
use Rattle.flow_rules.specs.declared.verdict.Verdict.TheVariants.{Accepted, Refused}
use Rattle.flow_derive.specs.Derive.{derived, refined, routed_state, sorted_state, first_state}
use Rattle.flow_graph.specs.FlowShape.{ForwardOrder, CoversLinks}
use Rattle.flow_derive.specs.LinkStates.{AreStates, state_at, choice_at, link_state}
use Rattle.flow_rules.specs.Verdicts.{IsAccepted, IsRefused, OneVerdict, link_misses}
use Rattle.flow_derive.proofs.Fills.{marked}

in_append : (l : ℕ) (xs ys : List ℕ) → IsIn l (xs ++ ys) → IsIn l xs ⊎ IsIn l ys
in_append l [] ys i = inr i
in_append l (x ∷ xs) ys (inl e) = inl (inl e)
in_append l (x ∷ xs) ys (inr i) = go (in_append l xs ys i)
  where
    go : (IsIn l xs ⊎ IsIn l ys) → IsIn l (x ∷ xs) ⊎ IsIn l ys
    go (inl j) = inl (inr j)
    go (inr j) = inr j

at_in : (P : ℕ → Type 0) (l : ℕ) (xs : List ℕ) → AllByRecursion P xs → IsIn l xs → P l
at_in P l [] h i = absurd i
at_in P l (x ∷ xs) h (inl e) = subst P (sym e) h.0
at_in P l (x ∷ xs) h (inr i) = at_in P l xs h.1 i

same_states : (s t : List State) (ls seen : List ℕ) → Lies ls seen → ((l : ℕ) → IsIn l seen → state_at s l ≡ state_at t l) → map (state_at s) ls ≡ map (state_at t) ls
same_states s t [] seen h e = refl
same_states s t (l ∷ ls) seen h e = ap₂ (λ a b. a ∷ b) (e l h.0) (same_states s t ls seen h.1 e)

-- a link's state, from equal states of its producer's inputs
same_link : (regains : Bool) (c : Chart) (s t : List State) (l : ℕ) → map (state_at s) (links_into c (link_at c l).from) ≡ map (state_at t) (links_into c (link_at c l).from) → link_state regains c s l ≡ link_state regains c t l
same_link regains c s t l e =
    ap (λ ss. refined regains (width_at c l) (sorted_state (choice_at c l).sort (routed_state (into_seq c l) (choice_at c l).method (refined regains (width_at c l) (derived (form_at c (link_at c l).from) (link_at c l).out ss))))) e

known_here : (regains : Bool) (c : Chart) (s t : List State) → AreStates regains c s → AreStates regains c t → (o : ℕ) (seen : List ℕ) → ((l : ℕ) → IsIn l seen → state_at s l ≡ state_at t l) → Lies (links_into c o) seen →
    (k : ℕ) → k < length c.flow.links → (link_at c k).from ≡ o → state_at s k ≡ state_at t k
known_here regains c s t hs ht o seen h f k n e =
    hs.derived k n ∙ same_link regains c s t k (subst (λ p. map (state_at s) (links_into c p) ≡ map (state_at t) (links_into c p)) (sym e) (same_states s t (links_into c o) seen f h)) ∙ sym (ht.derived k n)

more_known : (regains : Bool) (c : Chart) (s t : List State) → AreStates regains c s → AreStates regains c t → (o : ℕ) (seen : List ℕ) → ((l : ℕ) → IsIn l seen → state_at s l ≡ state_at t l) → Lies (links_into c o) seen →
    (k : ℕ) → IsIn k (links_from c o ++ seen) → state_at s k ≡ state_at t k
more_known regains c s t hs ht o seen h f k j = split (in_append k (links_from c o) seen j)
  where
    split : (IsIn k (links_from c o) ⊎ IsIn k seen) → state_at s k ≡ state_at t k
    split (inl a) =
        let m = at_in (λ p. ((link_at c p).from ≡ o) × (p < 0 + length c.flow.links)) k (links_from c o) (marked (λ p. (link_at c p).from) o 0 (length c.flow.links)) a in
        known_here regains c s t hs ht o seen h f k (let b = m.1 in omega arith) m.0
    split (inr a) = h k a

along_order : (regains : Bool) (c : Chart) (s t : List State) → AreStates regains c s → AreStates regains c t → (order seen : List ℕ) → ((l : ℕ) → IsIn l seen → state_at s l ≡ state_at t l) → ForwardOrder c seen order →
    (l : ℕ) → l < length c.flow.links → IsIn (link_at c l).from order → state_at s l ≡ state_at t l
along_order regains c s t hs ht [] seen h f l m i = absurd i
along_order regains c s t hs ht (o ∷ order) seen h f l m i = go (λ j. along_order regains c s t hs ht order (links_from c o ++ seen) (more_known regains c s t hs ht o seen h f.0) f.1 l m j) i
  where
    go : (IsIn (link_at c l).from order → state_at s l ≡ state_at t l) → IsIn (link_at c l).from (o ∷ order) → state_at s l ≡ state_at t l
    go rec (inl e) = known_here regains c s t hs ht o seen h f.0 l m e
    go rec (inr j) = rec j

pub one_states : (regains : Bool) (c : Chart) (s t : List State) → ForwardOrder c [] c.order → CoversLinks c → AreStates regains c s → AreStates regains c t → s ≡ t
one_states regains c s t f v hs ht = ext_get_or (first_state []) s t (hs.each ∙ sym ht.each) (λ i l. along_order regains c s t hs ht c.order [] (λ k j. absurd j) f i (let e = hs.each in omega arith) (v i (let e = hs.each in omega arith)))

apart : (m n : ℕ) → (m < n) ⊎ ((m ≡ n) ⊎ (n < m))
apart m n = go (nat_lt m n) refl (m == n) refl
  where
    go : (a : Bool) → nat_lt m n ≡ a → (b : Bool) → (m == n) ≡ b → (m < n) ⊎ ((m ≡ n) ⊎ (n < m))
    go true e b f = inl (grind (arith, nat_tests))
    go false e true f = inr (inl (grind (arith, nat_tests)))
    go false e false f = inr (inr (grind (arith, nat_tests)))

nothing_first : {X : Type 0} (x : X) (xs ys : List X) → ys ≡ [] → ys ≡ x ∷ xs → ⊥
nothing_first x xs ys e f = cc

same_first : {X : Type 0} (x y : X) (xs ys zs : List X) → zs ≡ x ∷ xs → zs ≡ y ∷ ys → x ≡ y
same_first x y xs ys zs e f = cc

accepted_refused : (regains : Bool) (c : Chart) (states : List State) (choices : List Choice) (link : ℕ) (need : Need) (have : State) → ForwardOrder c [] c.order → CoversLinks c → IsAccepted regains c states choices → IsRefused regains c link need have → ⊥
accepted_refused regains c states choices link need have f v a r =
    let same = one_states regains c r.states states f v r.states_are a.states_are in
    nothing_first (need, have) r.rest (link_misses regains c states link) (a.none link r.in_range) (subst (λ s. link_misses regains c s link ≡ (need, have) ∷ r.rest) same r.first)

refused_twice : (regains : Bool) (c : Chart) (k l : ℕ) (m n : Need) (s t : State) → ForwardOrder c [] c.order → CoversLinks c → IsRefused regains c k m s → IsRefused regains c l n t → Refused k m s ≡ Refused l n t
refused_twice regains c k l m n s t f v a b = go (apart k l)
  where
    same : a.states ≡ b.states
    same = one_states regains c a.states b.states f v a.states_are b.states_are

    first : link_misses regains c b.states k ≡ (m, s) ∷ a.rest
    first = subst (λ ss. link_misses regains c ss k ≡ (m, s) ∷ a.rest) same a.first

    go : ((k < l) ⊎ ((k ≡ l) ⊎ (l < k))) → Refused k m s ≡ Refused l n t
    go (inl h) = absurd (nothing_first (m, s) a.rest (link_misses regains c b.states k) (b.before k h) first)
    go (inr (inl e)) =
        let p : (m, s) ≡ (n, t) = same_first (m, s) (n, t) a.rest b.rest (link_misses regains c b.states l) (subst (λ x. link_misses regains c b.states x ≡ (m, s) ∷ a.rest) e first) b.first in
        ap₂ (λ x (y : Need × State). Refused x (y.0) (y.1)) e p
    go (inr (inr h)) = absurd (nothing_first (n, t) b.rest (link_misses regains c a.states l) (a.before l h) (subst (λ ss. link_misses regains c ss l ≡ (n, t) ∷ b.rest) (sym same) b.first))

pub one_verdict : OneVerdict
one_verdict regains c (Accepted s x) (Accepted t y) f v a b = ap₂ Accepted (one_states regains c s t f v a.states_are b.states_are) (a.choices_are ∙ sym b.choices_are)
one_verdict regains c (Accepted s x) (Refused l n t) f v a b = absurd (accepted_refused regains c s x l n t f v a b)
one_verdict regains c (Refused k m s) (Accepted t y) f v a b = absurd (accepted_refused regains c t y k m s f v b a)
one_verdict regains c (Refused k m s) (Refused l n t) f v a b = refused_twice regains c k l m n s t f v a b
