-- The links into an operator and from it, and what is chosen for a link.
use Rattle.std.proofs.Common.{◌≡◌, ◌≢◌, ◌⊎◌, inl, inr, ℕ, zero, suc, ◌+◌, ◌<◌, ◌≤◌, ◌==◌, Bool, true, false, cond, refl, sym, ap, ap₂, ◌∙◌, subst, List, [], ◌∷◌, ◌++◌, length, map, map-id, get_or, filter, append-nil, arith}
use Rattle.std.specs.List.{range_with_len}
use Rattle.std.proofs.lemmas.Bool.Decides.{eqb_tells}
use Rattle.std.proofs.lemmas.List.{map-append}
use Rattle.std.proofs.lemmas.List.Elements.{filter-append}
use Rattle.std.proofs.lemmas.List.FromFn.{get_or-map-range_with_len, length-map-range_with_len, map-range_with_len_more}
use Rattle.streams.proofs.StreamLaws.{eq_true, eq_false}
use Rattle.op_base.specs.Columns.{IsIn}
use Rattle.flow_graph.specs.declared.route.Choice.{Choice}
use Rattle.flow_graph.specs.Charts.{Chart, link_at, all_links, links_into, links_from}
use Rattle.flow_derive.specs.LinkStates.{choice_at}
use Rattle.flow_rules.specs.Exports.{input_of}

-- a member is one whichever value stands for a missing one
pub same_at : {X : Type 0} (xs : List X) (i : ℕ) (d e : X) → i < length xs → get_or xs i d ≡ get_or xs i e
same_at [] i d e l = absurd (omega (arith, l))
same_at (x ∷ xs) zero d e l = refl
same_at (x ∷ xs) (suc i) d e l = same_at xs i d e (omega (arith, l))

pub equal_from : (a b : ℕ) → (a == b) ≡ true → a ≡ b
equal_from a b e = go (eqb_tells a b)
  where
    go : (((a == b) ≡ true) × (a ≡ b)) ⊎ (((a == b) ≡ false) × (a ≢ b)) → a ≡ b
    go (inl h) = h.1
    go (inr h) = let f = sym e ∙ h.0 in cc

first_in : (p : ℕ → Bool) (a n i : ℕ) → i < n → p (a + i) ≡ true → ((k : ℕ) → k < i → p (a + k) ≡ false) → get_or (filter p (range_with_len a n)) 0 0 ≡ a + i
first_in p a zero i l e h = absurd (omega (arith, l))
first_in p a (suc n) zero l e h = ap (λ b. get_or (cond b (a ∷ filter p (range_with_len (a + 1) n)) (filter p (range_with_len (a + 1) n))) 0 0) (ap p (plain a) ∙ e) ∙ plain a
  where
    plain : (a : ℕ) → a ≡ a + 0
    plain a = omega arith
first_in p a (suc n) (suc i) l e h =
    ap (λ b. get_or (cond b (a ∷ filter p (range_with_len (a + 1) n)) (filter p (range_with_len (a + 1) n))) 0 0) (ap p (plain a) ∙ h 0 (omega arith))
    ∙ first_in p (a + 1) n i (omega (arith, l)) (ap p (later a i) ∙ e) (λ k m. ap p (later a k) ∙ h (suc k) (omega (arith, m))) ∙ later a i
  where
    plain : (a : ℕ) → a ≡ a + 0
    plain a = omega arith

    later : (a i : ℕ) → (a + 1) + i ≡ a + suc i
    later a i = omega arith

none_in : (p : ℕ → Bool) (a n : ℕ) → ((k : ℕ) → k < n → p (a + k) ≡ false) → filter p (range_with_len a n) ≡ []
none_in p a zero h = refl
none_in p a (suc n) h =
    ap (λ b. cond b (a ∷ filter p (range_with_len (a + 1) n)) (filter p (range_with_len (a + 1) n))) (ap p (plain a) ∙ h 0 (omega arith))
    ∙ none_in p (a + 1) n (λ k m. ap p (later a k) ∙ h (suc k) (omega (arith, m)))
  where
    plain : (a : ℕ) → a ≡ a + 0
    plain a = omega arith

    later : (a i : ℕ) → (a + 1) + i ≡ a + suc i
    later a i = omega arith

zero_plus : (l : ℕ) → 0 + l ≡ l
zero_plus l = omega arith

pub first_is : (c : Chart) (o l : ℕ) → l < length c.flow.links → (link_at c l).to ≡ o → ((k : ℕ) → k < l → (link_at c k).to ≢ o) → l ≡ input_of c o
first_is c o l m e h =
    let test : ℕ → Bool = λ k. (link_at c k).to == o in
    sym (first_in test 0 (length c.flow.links) l m (ap test (zero_plus l) ∙ eq_true (link_at c l).to o e) (λ k n. ap test (zero_plus k) ∙ eq_false (link_at c k).to o (h k n)) ∙ zero_plus l)

pub first_none : (c : Chart) (o : ℕ) → ((k : ℕ) → k < length c.flow.links → (link_at c k).to ≢ o) → 0 ≡ input_of c o
first_none c o h =
    let test : ℕ → Bool = λ k. (link_at c k).to == o in
    sym (ap (λ ls. get_or ls 0 0) (none_in test 0 (length c.flow.links) (λ k n. ap test (zero_plus k) ∙ eq_false (link_at c k).to o (h k n))))

-- members of ranges and of what passes a test
pub in_range : (a n l : ℕ) → a ≤ l → l < a + n → IsIn l (range_with_len a n)
in_range a zero l h k = absurd (omega (arith, h, k))
in_range a (suc n) l h k = go (eqb_tells l a) (λ m. in_range (a + 1) n l m (omega (arith, k)))
  where
    above : (l a : ℕ) → a ≤ l → l ≢ a → a + 1 ≤ l
    above l a h e = grind arith

    go : (((l == a) ≡ true) × (l ≡ a)) ⊎ (((l == a) ≡ false) × (l ≢ a)) → (a + 1 ≤ l → IsIn l (range_with_len (a + 1) n)) → IsIn l (range_with_len a (suc n))
    go (inl e) rec = inl e.1
    go (inr e) rec = inr (rec (above l a h e.1))

pub range_in : (a n l : ℕ) → IsIn l (range_with_len a n) → (a ≤ l) × (l < a + n)
range_in a zero l h = absurd h
range_in a (suc n) l (inl e) = (omega (arith, e), omega (arith, e))
range_in a (suc n) l (inr h) = let k = range_in (a + 1) n l h in (let u = k.0 in omega (arith, u), let v = k.1 in omega (arith, v))

pub in_all : (n l : ℕ) → l < n → IsIn l (range_with_len 0 n)
in_all n l m = in_range 0 n l (omega arith) (omega (arith, m))

pub all_in : (n l : ℕ) → IsIn l (range_with_len 0 n) → l < n
all_in n l h = let k = (range_in 0 n l h).1 in omega (arith, k)

in_filter : (p : ℕ → Bool) (xs : List ℕ) (x : ℕ) → IsIn x xs → p x ≡ true → IsIn x (filter p xs)
in_filter p [] x h e = absurd h
in_filter p (y ∷ xs) x (inl f) e = subst (λ b. IsIn x (cond b (y ∷ filter p xs) (filter p xs))) (sym (ap p (sym f) ∙ e)) (inl f)
in_filter p (y ∷ xs) x (inr h) e = go (p y) (in_filter p xs x h e)
  where
    go : (b : Bool) → IsIn x (filter p xs) → IsIn x (cond b (y ∷ filter p xs) (filter p xs))
    go true k = inr k
    go false k = k

filter_in : (p : ℕ → Bool) (xs : List ℕ) (x : ℕ) → IsIn x (filter p xs) → IsIn x xs × (p x ≡ true)
filter_in p [] x h = absurd h
filter_in p (y ∷ xs) x h = go (p y) refl h (filter_in p xs x)
  where
    go : (b : Bool) → p y ≡ b → IsIn x (cond b (y ∷ filter p xs) (filter p xs)) → (IsIn x (filter p xs) → IsIn x xs × (p x ≡ true)) → IsIn x (y ∷ xs) × (p x ≡ true)
    go true e (inl f) rec = (inl f, ap p f ∙ e)
    go true e (inr k) rec = let r = rec k in (inr r.0, r.1)
    go false e k rec = let r = rec k in (inr r.0, r.1)

pub into_in : (c : Chart) (o l : ℕ) → l < length c.flow.links → (link_at c l).to ≡ o → IsIn l (links_into c o)
into_in c o l m e = in_filter (λ k. (link_at c k).to == o) (all_links c) l (in_all (length c.flow.links) l m) (eq_true (link_at c l).to o e)

pub from_in : (c : Chart) (o l : ℕ) → l < length c.flow.links → (link_at c l).from ≡ o → IsIn l (links_from c o)
from_in c o l m e = in_filter (λ k. (link_at c k).from == o) (all_links c) l (in_all (length c.flow.links) l m) (eq_true (link_at c l).from o e)

pub in_into : (c : Chart) (o l : ℕ) → IsIn l (links_into c o) → (l < length c.flow.links) × ((link_at c l).to ≡ o)
in_into c o l h = let k = filter_in (λ k. (link_at c k).to == o) (all_links c) l h in (all_in (length c.flow.links) l k.0, equal_from (link_at c l).to o k.1)

pub in_from : (c : Chart) (o l : ℕ) → IsIn l (links_from c o) → (l < length c.flow.links) × ((link_at c l).from ≡ o)
in_from c o l h = let k = filter_in (λ k. (link_at c k).from == o) (all_links c) l h in (all_in (length c.flow.links) l k.0, equal_from (link_at c l).from o k.1)

-- the links below n + 1 that pass a test
range_more : (n : ℕ) → range_with_len 0 (n + 1) ≡ range_with_len 0 n ++ n ∷ []
range_more n =
    sym (map-id (range_with_len 0 (n + 1))) ∙ map-range_with_len_more (λ i. i) 0 n n (omega arith) ∙ ap (λ t. t ++ n ∷ []) (map-id (range_with_len 0 n))

pub one_more : {X : Type 0} (f : ℕ → X) (p : ℕ → Bool) (n : ℕ) (xs : List X) (x : X) → xs ≡ map f (filter p (range_with_len 0 n)) → p n ≡ true → x ≡ f n → xs ++ x ∷ [] ≡ map f (filter p (range_with_len 0 (n + 1)))
one_more f p n xs x e t same =
    ap₂ (λ ys y. ys ++ y ∷ []) e same
    ∙ sym (map-append f (filter p (range_with_len 0 n)) (n ∷ []))
    ∙ ap (λ b. map f (filter p (range_with_len 0 n) ++ cond b (n ∷ []) [])) (sym t)
    ∙ sym (ap (map f) (ap (filter p) (range_more n) ∙ filter-append p (range_with_len 0 n) (n ∷ [])))

pub none_more : {X : Type 0} (f : ℕ → X) (p : ℕ → Bool) (n : ℕ) (xs : List X) → xs ≡ map f (filter p (range_with_len 0 n)) → p n ≡ false → xs ≡ map f (filter p (range_with_len 0 (n + 1)))
none_more f p n xs e t =
    e
    ∙ ap (map f) (sym (append-nil (filter p (range_with_len 0 n))))
    ∙ ap (λ b. map f (filter p (range_with_len 0 n) ++ cond b (n ∷ []) [])) (sym t)
    ∙ sym (ap (map f) (ap (filter p) (range_more n) ∙ filter-append p (range_with_len 0 n) (n ∷ [])))

-- choices by link
pub choices_long : (c : Chart) (choices : List Choice) → choices ≡ map (choice_at c) (all_links c) → length choices ≡ length c.flow.links
choices_long c choices e = ap length e ∙ length-map-range_with_len (choice_at c) 0 (length c.flow.links)

pub choice_is : (c : Chart) (choices : List Choice) (l : ℕ) (d : Choice) → choices ≡ map (choice_at c) (all_links c) → l < length c.flow.links → get_or choices l d ≡ choice_at c l
choice_is c choices l d e m = ap (λ cs. get_or cs l d) e ∙ get_or-map-range_with_len (choice_at c) 0 (length c.flow.links) l l d m (omega arith)
