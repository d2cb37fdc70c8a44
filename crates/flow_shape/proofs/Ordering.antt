-- The topological order has each operator once, and links go forward in it.
use Rattle.std.proofs.Common.{◌≡◌, ◌≤◌, ◌<◌, ◌+◌, ◌==◌, ◌++◌, ◌∷◌, [], ◌||◌, not, ℕ, zero, suc, List, Bool, true, false, cond, refl, sym, ap, ◌∙◌, arith, length, get_or, subst, ◌⊎◌, inl, inr, count_by, nat_lt}
use Rattle.std.specs.List.{AllByRecursion, filter, range_with_len}
use Rattle.std.specs.List.Sorted.{IsPermutation}
use Rattle.std.proofs.lemmas.Bool.{eqb-true, eq-eqb, eqb-false, ltb-true, ltb-false}
use Rattle.std.proofs.lemmas.List.Sums.{sum_by-cons}
use Rattle.op_base.proofs.Bags.{permutation-from_counts}
use Rattle.op_base.proofs.ColumnLaws.{in_range}
use Rattle.op_base.specs.Columns.{IsIn, Lies}
use Rattle.flow_graph.specs.Charts.{Chart, no_link, links_into, links_from}
use Rattle.flow_graph.specs.declared.flow.LinkSpec.{LinkSpec}
use Rattle.flow_graph.specs.FlowShape.{ForwardOrder}
use Rattle.flow_shape.specs.Links.{feeds, is_done, is_ready, Follows, IsOrder, IsWhole}
use Rattle.flow_shape.proofs.Marks.{or_right, feeds_at}
use Rattle.flow_shape.proofs.Orders.{and_parts, or_or, done_more, fed, ready_undone}
use Rattle.flow_shape.proofs.Same.{range_all}
use Rattle.flow_shape.proofs.Steps.{done_still}

count_cons : (z x : ℕ) (xs : List ℕ) → count_by (λ y. y == z) (x ∷ xs) ≡ cond (x == z) 1 0 + count_by (λ y. y == z) xs
count_cons z x xs = sum_by-cons (λ y. cond (y == z) 1 0) x xs

-- what is done isn't in the rest
rest_by : (b : Bool) (z x c : ℕ) (done : List ℕ) → (x == z) ≡ b → is_done done x ≡ false → is_done done z ≡ true → c ≡ 0 → cond b 1 0 + c ≡ 0
rest_by true z x c done e fresh d h = let same : x ≡ z = eqb-true x z e in absurd (cc (sym fresh ∙ subst (λ k. is_done done k ≡ true) (sym same) d))
rest_by false z x c done e fresh d h = omega (arith, h)

rest : (n : ℕ) (links : List LinkSpec) (done order : List ℕ) (z : ℕ) → Follows n links done order → is_done done z ≡ true → count_by (λ y. y == z) order ≡ 0
rest n links done [] z f d = refl
rest n links done (x ∷ order) z f d =
    count_cons z x order ∙ rest_by (x == z) z x _ done refl (ready_undone links done x f.0.1) d (rest n links (done ++ x ∷ []) order z f.1 (done_still done x z d))

once_by : (b : Bool) (z x c : ℕ) (r : Bool) → (x == z) ≡ b → (b || r) ≡ true → (x ≡ z → c ≡ 0) → (r ≡ true → c ≡ 1) → cond b 1 0 + c ≡ 1
once_by true z x c r e d here later = let h = here (eqb-true x z e) in omega (arith, h)
once_by false z x c r e d here later = let h = later d in omega (arith, h)

last_done : (done : List ℕ) (x z : ℕ) → x ≡ z → is_done (done ++ x ∷ []) z ≡ true
last_done done x z e = done_more done x z ∙ or_right (is_done done z) (x == z) (eq-eqb x z e)

once : (n : ℕ) (links : List LinkSpec) (done order : List ℕ) (z : ℕ) → Follows n links done order → is_done order z ≡ true → count_by (λ y. y == z) order ≡ 1
once n links done [] z f d = cc
once n links done (x ∷ order) z f d =
    count_cons z x order ∙ once_by (x == z) z x _ (is_done order z) refl d (λ e. rest n links (done ++ x ∷ []) order z f.1 (last_done done x z e)) (once n links (done ++ x ∷ []) order z f.1)

within_by : (b : Bool) (n x z : ℕ) (r : Bool) → (x == z) ≡ b → (b || r) ≡ true → x < n → (r ≡ true → z < n) → z < n
within_by true n x z r e d h go = subst (λ k. k < n) (eqb-true x z e) h
within_by false n x z r e d h go = go d

within : (n : ℕ) (links : List LinkSpec) (done order : List ℕ) (z : ℕ) → Follows n links done order → is_done order z ≡ true → z < n
within n links done [] z f d = cc
within n links done (x ∷ order) z f d = within_by (x == z) n x z (is_done order z) refl d f.0.0 (within n links (done ++ x ∷ []) order z f.1)

none_by : (b : Bool) (c : ℕ) (r : Bool) → (b || r) ≡ false → (r ≡ false → c ≡ 0) → cond b 1 0 + c ≡ 0
none_by true c r e go = cc
none_by false c r e go = let h = go e in omega (arith, h)

not_there : (z : ℕ) (xs : List ℕ) → is_done xs z ≡ false → count_by (λ y. y == z) xs ≡ 0
not_there z [] e = refl
not_there z (x ∷ xs) e = count_cons z x xs ∙ none_by (x == z) _ (is_done xs z) e (not_there z xs)

apart_by : (b : Bool) (z x c : ℕ) → (x == z) ≡ b → (x ≡ z → ⊥) → c ≡ 0 → cond b 1 0 + c ≡ 0
apart_by true z x c e n h = absurd (n (eqb-true x z e))
apart_by false z x c e n h = omega (arith, h)

outside : (z a n : ℕ) → (z < a) ⊎ (a + n ≤ z) → count_by (λ y. y == z) (range_with_len a n) ≡ 0
outside z a zero h = refl
outside z a (suc n) (inl h) = count_cons z a (range_with_len (a + 1) n) ∙ apart_by (a == z) z a _ refl (λ e. absurd (omega (arith, e, h))) (outside z (a + 1) n (inl (omega (arith, h))))
outside z a (suc n) (inr h) = count_cons z a (range_with_len (a + 1) n) ∙ apart_by (a == z) z a _ refl (λ e. absurd (omega (arith, e, h))) (outside z (a + 1) n (inr (omega (arith, h))))

inside_by : (b : Bool) (z a c : ℕ) → (a == z) ≡ b → (a ≡ z → c ≡ 0) → ((a ≡ z → ⊥) → c ≡ 1) → cond b 1 0 + c ≡ 1
inside_by true z a c e here later = let h = here (eqb-true a z e) in omega (arith, h)
inside_by false z a c e here later = let n = eqb-false a z e in let h = later (λ k. absurd (omega (arith, n, k))) in omega (arith, h)

inside : (z a n : ℕ) → a ≤ z → z < a + n → count_by (λ y. y == z) (range_with_len a n) ≡ 1
inside z a zero l h = absurd (omega arith)
inside z a (suc n) l h = count_cons z a (range_with_len (a + 1) n) ∙ inside_by (a == z) z a _ refl (λ e. outside z (a + 1) n (inl (omega (arith, e)))) (λ k. inside z (a + 1) n (omega (arith, l, k)) (omega (arith, h)))

gone : (d : Bool) (n : ℕ) (links : List LinkSpec) (order : List ℕ) (z : ℕ) → is_done order z ≡ d → IsOrder n links order → n ≤ z → is_done order z ≡ false
gone true n links order z k f h = absurd (let v = within n links [] order z f k in omega (arith, v, h))
gone false n links order z k f h = k

low_by : (b : Bool) (n : ℕ) (links : List LinkSpec) (order : List ℕ) (z : ℕ) → nat_lt z n ≡ b → IsOrder n links order → IsWhole n order → count_by (λ y. y == z) (range_with_len 0 n) ≡ count_by (λ y. y == z) order
low_by true n links order z e f w = let h = ltb-true z n e in inside z 0 n (omega arith) (omega (arith, h)) ∙ sym (once n links [] order z f (w z h))
low_by false n links order z e f w = let h = ltb-false z n e in outside z 0 n (inr (omega (arith, h))) ∙ sym (not_there z order (gone (is_done order z) n links order z refl f h))

pub order_once : (n : ℕ) (links : List LinkSpec) (order : List ℕ) → IsOrder n links order → IsWhole n order → IsPermutation (range_with_len 0 n) order
order_once n links order f w = permutation-from_counts (λ z y. y == z) (λ x y e. sym (eqb-true y x e)) (λ x. eq-eqb x x refl) (range_with_len 0 n) order (λ z. low_by (nat_lt z n) n links order z refl f w)

filtered_by : (b : Bool) (q : ℕ → Bool) (P : ℕ → Type 0) (x : ℕ) (xs : List ℕ) → (b ≡ true → P x) → AllByRecursion P (filter q xs) → AllByRecursion P (cond b (x ∷ filter q xs) (filter q xs))
filtered_by true q P x xs h rest = (h refl, rest)
filtered_by false q P x xs h rest = rest

all_filtered : (q : ℕ → Bool) (P : ℕ → Type 0) (xs : List ℕ) → AllByRecursion (λ x. q x ≡ true → P x) xs → AllByRecursion P (filter q xs)
all_filtered q P [] h = tt
all_filtered q P (x ∷ xs) h = filtered_by (q x) q P x xs h.0 (all_filtered q P xs h.1)

in_by : (b : Bool) (q : ℕ → Bool) (l x : ℕ) (xs : List ℕ) → q x ≡ b → q l ≡ true → (l ≡ x) ⊎ IsIn l xs → (IsIn l xs → IsIn l (filter q xs)) → IsIn l (cond b (x ∷ filter q xs) (filter q xs))
in_by true q l x xs e h (inl k) go = inl k
in_by true q l x xs e h (inr k) go = inr (go k)
in_by false q l x xs e h (inl k) go = absurd (cc (sym e ∙ (ap q (sym k) ∙ h)))
in_by false q l x xs e h (inr k) go = go k

in_filtered : (q : ℕ → Bool) (l : ℕ) (xs : List ℕ) → q l ≡ true → IsIn l xs → IsIn l (filter q xs)
in_filtered q l [] h k = k
in_filtered q l (x ∷ xs) h k = in_by (q x) q l x xs refl h k (in_filtered q l xs h)

in_left : (l : ℕ) (xs ys : List ℕ) → IsIn l xs → IsIn l (xs ++ ys)
in_left l [] ys k = absurd k
in_left l (x ∷ xs) ys (inl k) = inl k
in_left l (x ∷ xs) ys (inr k) = inr (in_left l xs ys k)

in_right : (l : ℕ) (xs ys : List ℕ) → IsIn l ys → IsIn l (xs ++ ys)
in_right l [] ys k = k
in_right l (x ∷ xs) ys k = inr (in_right l xs ys k)

-- the links out of what is done were seen
abbrev pub Seen : Chart → List ℕ → List ℕ → Type 0
Seen c done seen = (l : ℕ) → l < length c.flow.links → is_done done (get_or c.flow.links l no_link).from ≡ true → IsIn l seen

seen_more : (c : Chart) (done seen : List ℕ) (o : ℕ) → Seen c done seen → Seen c (done ++ o ∷ []) (links_from c o ++ seen)
seen_more c done seen o s l h d = elim (or_or (is_done done (get_or c.flow.links l no_link).from) (o == (get_or c.flow.links l no_link).from) (sym (done_more done o (get_or c.flow.links l no_link).from) ∙ d)) [
  | inl e ↦ in_right l (links_from c o) seen (s l h e)
  | inr e ↦ in_left l (links_from c o) seen (in_filtered (λ k. (get_or c.flow.links k no_link).from == o) l (range_with_len 0 (length c.flow.links))
      (eq-eqb _ o (sym (eqb-true o (get_or c.flow.links l no_link).from e))) (in_range l 0 (length c.flow.links) (omega arith) (omega (arith, h))))
]

into_seen : (n : ℕ) (c : Chart) (done seen : List ℕ) (o : ℕ) → is_ready c.flow.links done o ≡ true → Seen c done seen → Lies (links_into c o) seen
into_seen n c done seen o r s = all_filtered (λ k. (get_or c.flow.links k no_link).to == o) (λ k. IsIn k seen) (range_with_len 0 (length c.flow.links))
    (range_all (λ k. ((get_or c.flow.links k no_link).to == o) ≡ true → IsIn k seen) 0 (length c.flow.links) (λ l low high e.
    let h : l < length c.flow.links = omega (arith, high) in
    s l h (fed c.flow.links done (get_or c.flow.links l no_link).from o (and_parts (not (is_done done o)) _ r).1
    (subst (λ x. feeds c.flow.links (get_or c.flow.links l no_link).from x ≡ true) (eqb-true _ o e) (feeds_at c.flow.links l no_link h)))))

forward : (n : ℕ) (c : Chart) (done seen order : List ℕ) → Follows n c.flow.links done order → Seen c done seen → ForwardOrder c seen order
forward n c done seen [] f s = tt
forward n c done seen (o ∷ order) f s = (into_seen n c done seen o f.0.1 s, forward n c (done ++ o ∷ []) (links_from c o ++ seen) order f.1 (seen_more c done seen o s))

pub order_forward : (n : ℕ) (c : Chart) (order : List ℕ) → IsOrder n c.flow.links order → ForwardOrder c [] order
order_forward n c order f = forward n c [] [] order f (λ l h d. cc)
