-- Permutations by counting, and what keeps them.
use Rattle.std.proofs.Common.{Bool, IsPermutation, List, ap, append-nil, ap₂, arith, cond, count_by, false, filter, flat_map, get_or, inl, inr, length, map, refl, set, subst, suc, sum_by, sym, true, zero, ℕ, ◌≡◌, ◌+◌, ◌<◌, ◌∷◌, ◌++◌, ◌∙◌, ◌&&◌, []}
use Rattle.std.proofs.lemmas.List.Elements.{filter-append}
use Rattle.std.proofs.lemmas.List.Sorted.{IsPermutation-append, IsPermutation-cons, IsPermutation-middle, IsPermutation-refl, IsPermutation-sym, IsPermutation-trans, sum_by-IsPermutation}
use Rattle.std.proofs.lemmas.List.Sums.{length-filter, sum_by-append, sum_by-cons}
use Rattle.op_base.specs.Lists.{AllEmpty, Interleaves, OneHolds, joined}
use Rattle.op_base.proofs.All.{and_split}

pub count-cons : {X : Type 0} (p : X → Bool) (x : X) (xs : List X) → count_by p (x ∷ xs) ≡ cond (p x) 1 0 + count_by p xs
count-cons p x xs = sum_by-cons (λ y. cond (p y) 1 0) x xs

pub count-append : {X : Type 0} (p : X → Bool) (xs ys : List X) → count_by p (xs ++ ys) ≡ count_by p xs + count_by p ys
count-append p xs ys = sum_by-append (λ y. cond (p y) 1 0) xs ys

pub count-permutation : {X : Type 0} (p : X → Bool) (xs ys : List X) → IsPermutation xs ys → count_by p xs ≡ count_by p ys
count-permutation p xs ys h = sym (sum_by-IsPermutation (λ y. cond (p y) 1 0) xs ys h)

pub split_at : {X : Type 0} (p : X → Bool) (xs : List X) → 0 < count_by p xs → (l : List X) × (y : X) × (r : List X) × (p y ≡ true) × (xs ≡ l ++ y ∷ r)
split_at p [] h = absurd (omega arith)
split_at {X} p (x ∷ xs) h = go (p x) refl (split_at p xs)
  where
    go : (b : Bool) → p x ≡ b → (0 < count_by p xs → (l : List X) × (y : X) × (r : List X) × (p y ≡ true) × (xs ≡ l ++ y ∷ r)) → (l : List X) × (y : X) × (r : List X) × (p y ≡ true) × (x ∷ xs ≡ l ++ y ∷ r)
    go true e k = ([], x, xs, e, refl)
    go false e k =
        let c : count_by p (x ∷ xs) ≡ count_by p xs = count-cons p x xs ∙ ap (λ b. cond b 1 0 + count_by p xs) e ∙ omega arith in
        let s = k (subst (λ n. 0 < n) c h) in
        (x ∷ s.0, s.1, s.2, s.3, ap (λ zs. x ∷ zs) s.4)

-- lists in which each item comes equally often are permutations
pub permutation-from_counts : {X : Type 0} (E : X → X → Bool) → ((x y : X) → E x y ≡ true → x ≡ y) → ((x : X) → E x x ≡ true) → (xs ys : List X) → ((z : X) → count_by (E z) xs ≡ count_by (E z) ys) → IsPermutation xs ys
permutation-from_counts E exact itself [] [] h = IsPermutation-refl []
permutation-from_counts E exact itself [] (y ∷ ys) h =
    let c : count_by (E y) (y ∷ ys) ≡ 1 + count_by (E y) ys = count-cons (E y) y ys ∙ ap (λ b. cond b 1 0 + count_by (E y) ys) (itself y) in
    let e = h y in absurd (omega (arith, c, e))
permutation-from_counts {X} E exact itself (x ∷ xs) ys h =
    let c : count_by (E x) (x ∷ xs) ≡ 1 + count_by (E x) xs = count-cons (E x) x xs ∙ ap (λ b. cond b 1 0 + count_by (E x) xs) (itself x) in
    let s = split_at (E x) ys (let e = h x in omega (arith, c, e)) in
    let same : x ≡ s.1 = exact x s.1 s.3 in
    let shape : ys ≡ s.0 ++ x ∷ s.2 = s.4 ∙ ap (λ y. s.0 ++ y ∷ s.2) (sym same) in
    let counts : (z : X) → count_by (E z) xs ≡ count_by (E z) (s.0 ++ s.2) = λ z.
    let a = h z ∙ ap (count_by (E z)) shape ∙ count-append (E z) s.0 (x ∷ s.2) in
    let b = count-cons (E z) x xs in
    let d = count-cons (E z) x s.2 in
    let e = count-append (E z) s.0 s.2 in
    omega (arith, a, b, d, e) in
    IsPermutation-trans (x ∷ xs) (x ∷ (s.0 ++ s.2)) ys (IsPermutation-cons x xs (s.0 ++ s.2) (permutation-from_counts E exact itself xs (s.0 ++ s.2) counts))
    (subst (IsPermutation (x ∷ (s.0 ++ s.2))) (sym shape) (IsPermutation-sym (s.0 ++ x ∷ s.2) (x ∷ (s.0 ++ s.2)) (IsPermutation-middle s.0 x s.2)))

pub filter_joined : {X : Type 0} (p : X → Bool) (ls : List (List X)) → filter p (joined ls) ≡ joined (map (filter p) ls)
filter_joined p [] = refl
filter_joined p (xs ∷ ls) = filter-append p xs (joined ls) ∙ ap (λ ys. filter p xs ++ ys) (filter_joined p ls)

pub joined_nothing : {X : Type 0} (ls : List (List X)) → AllEmpty ls → joined ls ≡ []
joined_nothing [] h = refl
joined_nothing (xs ∷ ls) h = ap₂ (λ a b. a ++ b) h.0 (joined_nothing ls h.1)

pub joined_one : {X : Type 0} (ls : List (List X)) (whole : List X) → OneHolds ls whole → joined ls ≡ whole
joined_one [] whole h = absurd h
joined_one (xs ∷ ls) whole (inl h) = ap₂ (λ a b. a ++ b) h.0 (joined_nothing ls h.1) ∙ append-nil whole
joined_one (xs ∷ ls) whole (inr h) = ap₂ (λ a b. a ++ b) h.0 (joined_one ls whole h.1)

-- an interleaving has each item as often as its lists have it
sum_taken : {X : Type 0} (f : X → ℕ) (ls : List (List X)) (i : ℕ) (x : X) (rest : List X) → i < length ls → get_or ls i [] ≡ x ∷ rest → sum_by f (joined ls) ≡ f x + sum_by f (joined (set ls i rest))
sum_taken f [] i x rest l e = absurd (omega arith)
sum_taken f (xs ∷ ls) zero x rest l e =
    let a = sum_by-append f xs (joined ls) in
    let b = sum_by-append f rest (joined ls) in
    let c = ap (sum_by f) e ∙ sum_by-cons f x rest in
    omega (arith, a, b, c)
sum_taken f (xs ∷ ls) (suc i) x rest l e =
    let a = sum_by-append f xs (joined ls) in
    let b = sum_by-append f xs (joined (set ls i rest)) in
    let c = sum_taken f ls i x rest (omega arith) e in
    omega (arith, a, b, c)

pub sum_interleaved : {X : Type 0} (f : X → ℕ) (ls : List (List X)) (xs : List X) → Interleaves ls xs → sum_by f (joined ls) ≡ sum_by f xs
sum_interleaved f ls [] h = ap (sum_by f) (joined_nothing ls h)
sum_interleaved f ls (x ∷ xs) h = sum_taken f ls h.0 x h.1 h.2 h.3 ∙ ap (λ n. f x + n) (sum_interleaved f (set ls h.0 h.1) xs h.4) ∙ sym (sum_by-cons f x xs)

pub same_long : {X : Type 0} (xs ys : List X) → IsPermutation xs ys → length xs ≡ length ys
same_long xs ys h = sym (each xs) ∙ count-permutation (λ x. true) xs ys h ∙ each ys
  where
    each : {X : Type 0} (zs : List X) → count_by (λ x. true) zs ≡ length zs
    each [] = refl
    each (z ∷ zs) = count-cons (λ x. true) z zs ∙ ap (λ n. 1 + n) (each zs) ∙ omega arith

pub permuted_long : {X : Type 0} (xs ys : List X) → IsPermutation xs ys → length xs ≡ length ys
permuted_long = same_long

pub flat_permuted : {X Y : Type 0} (g h : X → List Y) → ((x : X) → IsPermutation (g x) (h x)) → (xs : List X) → IsPermutation (flat_map g xs) (flat_map h xs)
flat_permuted g h e [] = IsPermutation-refl []
flat_permuted g h e (x ∷ xs) = IsPermutation-append (g x) (h x) (flat_map g xs) (flat_map h xs) (e x) (flat_permuted g h e xs)

pub cond_permuted : {X : Type 0} (b : Bool) (xs ys : List X) → IsPermutation xs ys → IsPermutation (cond b xs []) (cond b ys [])
cond_permuted true xs ys h = h
cond_permuted false xs ys h = IsPermutation-refl []

-- a filter of permuted lists
pub count-filter : {X : Type 0} (p q : X → Bool) (xs : List X) → count_by q (filter p xs) ≡ count_by (λ x. p x && q x) xs
count-filter p q xs = sym (length-filter q (filter p xs)) ∙ ap length (and_split p q xs) ∙ length-filter (λ x. p x && q x) xs
