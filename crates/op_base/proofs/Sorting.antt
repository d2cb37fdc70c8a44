-- The arranged list is in order and keeps the ties, so it is what a stable sort leaves.
use Rattle.std.proofs.Common.{Bool, List, ap, append-nil, arith, cond, false, filter, flat_map, get_or, length, not, refl, subst, suc, sym, true, zero, ℕ, ◌≡◌, ◌+◌, ◌<◌, ◌∷◌, ◌++◌, ◌∙◌, ◌&&◌, []}
use Rattle.std.proofs.lemmas.Cmp.{alike_right, tied_back}
use Rattle.std.proofs.lemmas.List.Elements.{filter_agree}
use Rattle.std.proofs.lemmas.List.Sorted.{ranks_by, sorted_far}
use Rattle.std.specs.Cmp.{IsTotalOrder}
use Rattle.std.specs.List.{AllByRecursion}
use Rattle.std.specs.List.Sorted.{IsSorted, IsStable, ties}
use Rattle.std.specs.Ordering.{is_eq, is_lt, ordering_reverse, ordering_then}
use Rattle.std.specs.declared.cmp.Ordering.{Ordering}
use Rattle.std.specs.declared.cmp.Ordering.TheVariants.{Equal, Greater, Less}
use Rattle.op_base.specs.Lists.{IsArranged, firsts, put_at, with_rank}
use Rattle.op_base.proofs.All.{all_append, all_map}
use Rattle.op_base.proofs.Arranged.{arranged_filter, same_arranged, tie}
use Rattle.op_base.proofs.Ranks.{Ascends, filter_all, firsts_ascend, for_ranks, for_ranks_filter}

-- in order, one after another
pub arranged_append : {X : Type 0} (R : X → X → Ordering) → (xs ys : List X) → IsArranged R xs → IsArranged R ys → AllByRecursion (λ x. AllByRecursion (λ y. is_lt (R y x) ≡ false) ys) xs → IsArranged R (xs ++ ys)
arranged_append R [] ys h k c = k
arranged_append {X} R (x ∷ xs) ys h k c = (all_append (λ (y : X). is_lt (R y x) ≡ false) xs ys h.0 c.0, arranged_append R xs ys h.1 k c.1)

pub tied : {X : Type 0} (R : X → X → Ordering) (x y : X) → tie R x y ≡ true → R y x ≡ Equal
tied R x y e = go (R y x) e
  where
    go : (c : Ordering) → is_eq c ≡ true → c ≡ Equal
    go Less e = cc
    go Equal e = refl
    go Greater e = cc

pub all_tie : {X : Type 0} (R : X → X → Ordering) (x : X) (xs : List X) → AllByRecursion (λ y. R y x ≡ Equal) (filter (tie R x) xs)
all_tie R x [] = tt
all_tie {X} R x (y ∷ xs) = go (R y x) refl (all_tie R x xs)
  where
    go : (c : Ordering) → R y x ≡ c → AllByRecursion (λ (z : X). R z x ≡ Equal) (filter (tie R x) xs) → AllByRecursion (λ (z : X). R z x ≡ Equal) (cond (is_eq c) (y ∷ filter (tie R x) xs) (filter (tie R x) xs))
    go Less e k = k
    go Equal e k = (e, k)
    go Greater e k = k

later_above : {X : Type 0} {R : X → X → Ordering} → IsTotalOrder R → (g : X → List X) → ((x : X) → AllByRecursion (λ y. R y x ≡ Equal) (g x)) → (x a : X) → R a x ≡ Equal → (vs : List X) → AllByRecursion (λ v. R x v ≡ Less) vs → AllByRecursion (λ b. R a b ≡ Less) (flat_map g vs)
later_above o g t x a e [] h = tt
later_above {X} {R} o g t x a e (v ∷ vs) h =
    all_append (λ (b : X). R a b ≡ Less) (g v) (flat_map g vs)
    (all_map (λ (b : X). R b v ≡ Equal) (λ (b : X). R a b ≡ Less) (λ b f. alike_right o b v a f ∙ o.congr a x v e ∙ h.0) (g v) (t v))
    (later_above o g t x a e vs h.1)

-- The groups of ranks that ascend, each of ties of its rank and in some order S that puts apart only what ties.
pub groups_arranged : {X : Type 0} {R : X → X → Ordering} → IsTotalOrder R → (S : X → X → Ordering) → (g : X → List X) → ((x : X) → AllByRecursion (λ y. R y x ≡ Equal) (g x)) → ((x : X) → IsArranged S (g x)) → ((a b : X) → R a b ≡ Less → is_lt (S b a) ≡ false) → (vs : List X) → Ascends R vs → IsArranged S (flat_map g vs)
groups_arranged o S g t s c [] h = tt
groups_arranged {X} {R} o S g t s c (v ∷ vs) h =
    arranged_append S (g v) (flat_map g vs) (s v) (groups_arranged o S g t s c vs h.1)
    (all_map (λ (a : X). R a v ≡ Equal) (λ (a : X). AllByRecursion (λ (b : X). is_lt (S b a) ≡ false) (flat_map g vs))
    (λ a e. all_map (λ (b : X). R a b ≡ Less) (λ (b : X). is_lt (S b a) ≡ false) (λ b l. c a b l) (flat_map g vs) (later_above o g t v a e vs h.0))
    (g v) (t v))

-- what all ties is in order
ties_arranged : {X : Type 0} {R : X → X → Ordering} → IsTotalOrder R → (x : X) (ys : List X) → AllByRecursion (λ y. R y x ≡ Equal) ys → IsArranged R ys
ties_arranged o x [] h = tt
ties_arranged {X} {R} o x (y ∷ ys) h =
    (all_map (λ (z : X). R z x ≡ Equal) (λ (z : X). is_lt (R z y) ≡ false) (λ z e. ap is_lt (o.congr z x y e ∙ tied_back o y x h.0)) ys h.1, ties_arranged o x ys h.1)

pub ranks_arranged : {X : Type 0} {R : X → X → Ordering} → IsTotalOrder R → (xs : List X) → IsArranged R (for_ranks R (λ same. same) xs)
ranks_arranged {X} {R} o xs =
    groups_arranged o R (λ (x : X). filter (tie R x) xs) (λ x. all_tie R x xs) (λ x. ties_arranged o x (filter (tie R x) xs) (all_tie R x xs))
    (λ a b l. ap is_lt (o.antisymm b a ∙ ap ordering_reverse l)) (firsts R xs) (firsts_ascend o xs)

-- a list that is in order by S is, in the order of R, in order by R and then S
pub ranks_arranged_then : {X : Type 0} {R : X → X → Ordering} → IsTotalOrder R → (S : X → X → Ordering) (xs : List X) → IsArranged S xs → IsArranged (λ x y. ordering_then (R x y) (S x y)) (for_ranks R (λ same. same) xs)
ranks_arranged_then {X} {R} o S xs h =
    groups_arranged o (λ (x y : X). ordering_then (R x y) (S x y)) (λ (x : X). filter (tie R x) xs) (λ x. all_tie R x xs)
    (λ x. within x (filter (tie R x) xs) (all_tie R x xs) (arranged_filter S (tie R x) xs h))
    (λ a b l. ap (λ c. is_lt (ordering_then c (S b a))) (o.antisymm b a ∙ ap ordering_reverse l)) (firsts R xs) (firsts_ascend o xs)
  where
    within : (x : X) (ys : List X) → AllByRecursion (λ y. R y x ≡ Equal) ys → IsArranged S ys → IsArranged (λ a b. ordering_then (R a b) (S a b)) ys
    within x [] t k = tt
    within x (y ∷ ys) t k =
        (both ys t.1 k.0, within x ys t.1 k.1)
      where
        both : (zs : List X) → AllByRecursion (λ z. R z x ≡ Equal) zs → AllByRecursion (λ z. is_lt (S z y) ≡ false) zs → AllByRecursion (λ z. is_lt (ordering_then (R z y) (S z y)) ≡ false) zs
        both [] e f = tt
        both (z ∷ zs) e f = (ap (λ c. is_lt (ordering_then c (S z y))) (o.congr z x y e.0 ∙ tied_back o y x t.0) ∙ f.0, both zs e.1 f.1)

-- of items that all tie there is one rank, and it is the list
one_rank : {X : Type 0} {R : X → X → Ordering} → IsTotalOrder R → (x y : X) (ys : List X) → R y x ≡ Equal → AllByRecursion (λ z. R z x ≡ Equal) ys → firsts R (y ∷ ys) ≡ y ∷ []
one_rank o x y [] e h = refl
one_rank {X} {R} o x y (z ∷ ys) e h = ap (with_rank R y) (one_rank o x z ys h.0 h.1) ∙ ap (λ c. put_at c y z [] (y ∷ [])) (o.congr y x z e ∙ tied_back o z x h.0)

pub same_rank : {X : Type 0} {R : X → X → Ordering} → IsTotalOrder R → (x : X) (ys : List X) → AllByRecursion (λ z. R z x ≡ Equal) ys → for_ranks R (λ same. same) ys ≡ ys
same_rank o x [] h = refl
same_rank {X} {R} o x (y ∷ ys) h =
    ap (flat_map (λ (z : X). filter (tie R z) (y ∷ ys))) (one_rank o x y ys h.0 h.1)
    ∙ append-nil (filter (tie R y) (y ∷ ys))
    ∙ filter_all (tie R y) (y ∷ ys) (all_map (λ (z : X). R z x ≡ Equal) (λ (z : X). tie R y z ≡ true) (λ z e. ap is_eq (o.congr z x y e ∙ tied_back o y x h.0)) (y ∷ ys) h)

-- the ties of an item are kept in their order
pub ranks_ties : {X : Type 0} {R : X → X → Ordering} → IsTotalOrder R → (x : X) (xs : List X) → filter (tie R x) (for_ranks R (λ same. same) xs) ≡ filter (tie R x) xs
ranks_ties {X} {R} o x xs =
    for_ranks_filter o (λ same. same) (tie R x) (tie R x) (λ y z e. ap is_eq (o.congr y z x e)) (λ b ys h. h) xs
    ∙ same_rank o x (filter (tie R x) xs) (all_tie R x xs)

-- std's words
all_from_at : {X : Type 0} (P : X → Type 0) → (xs : List X) → ((k : ℕ) (d : X) → k < length xs → P (get_or xs k d)) → AllByRecursion P xs
all_from_at P [] h = tt
all_from_at P (x ∷ xs) h = (h 0 x (omega arith), all_from_at P xs (λ k d l. h (suc k) d (omega arith)))

pub arranged_from_sorted : {X : Type 0} {R : X → X → Ordering} → IsTotalOrder R → (xs : List X) → IsSorted R xs → IsArranged R xs
arranged_from_sorted o [] h = tt
arranged_from_sorted {X} {R} o (x ∷ xs) h = (
  all_from_at (λ (y : X). is_lt (R y x) ≡ false) xs (λ k d l. sorted_far (λ (a b : X). is_lt (R a b)) (ranks_by o (λ (a : X). a)) (x ∷ xs) h 0 (suc k) d (omega arith) (omega arith)),
  arranged_from_sorted o xs (λ k d a b. let e : suc k + 1 ≡ suc (k + 1) = omega arith in subst (λ n. is_lt (R (get_or (x ∷ xs) n d) (get_or xs k d)) ≡ false) e (h (suc k) d (omega arith) (omega arith))),
)

ties_is_tie : {X : Type 0} {R : X → X → Ordering} → IsTotalOrder R → (x y : X) → ties (λ a b. is_lt (R a b)) x y ≡ tie R x y
ties_is_tie {X} {R} o x y = ap (λ c. not (is_lt c) && not (is_lt (R y x))) (o.antisymm x y) ∙ go (R y x)
  where
    go : (c : Ordering) → (not (is_lt (ordering_reverse c)) && not (is_lt c)) ≡ is_eq c
    go Less = refl
    go Equal = refl
    go Greater = refl

-- What a stable sort leaves is the arranged list.
pub stable_sort_is : {X : Type 0} {R : X → X → Ordering} → IsTotalOrder R → (xs ys : List X) → IsSorted R ys → IsStable R xs ys → ys ≡ for_ranks R (λ same. same) xs
stable_sort_is {X} {R} o xs ys up stable =
    same_arranged o ys (for_ranks R (λ same. same) xs) (arranged_from_sorted o ys up) (ranks_arranged o xs)
    (λ x. sym (filter_agree (ties (λ (a b : X). is_lt (R a b)) x) (tie R x) (ties_is_tie o x) ys) ∙ stable x ∙ filter_agree (ties (λ (a b : X). is_lt (R a b)) x) (tie R x) (ties_is_tie o x) xs ∙ sym (ranks_ties o x xs))

filter_both : {X : Type 0} (p q : X → Bool) → (xs : List X) → filter q (filter p xs) ≡ filter p (filter q xs)
filter_both p q [] = refl
filter_both p q (x ∷ xs) = grind (arith, filter_both p q xs)

-- What passes any test, arranged, is what passes of the arranged list.
pub ranks_filter : {X : Type 0} {R : X → X → Ordering} → IsTotalOrder R → (p : X → Bool) (xs : List X) → filter p (for_ranks R (λ same. same) xs) ≡ for_ranks R (λ same. same) (filter p xs)
ranks_filter {X} {R} o p xs =
    let a = for_ranks R (λ (same : List X). same) xs in
    same_arranged o (filter p a) (for_ranks R (λ same. same) (filter p xs)) (arranged_filter R p a (ranks_arranged o xs)) (ranks_arranged o (filter p xs))
    (λ x. filter_both p (tie R x) a ∙ ap (filter p) (ranks_ties o x xs) ∙ filter_both (tie R x) p xs ∙ sym (ranks_ties o x (filter p xs)))

-- a list that is in order is arranged
pub ranks_done : {X : Type 0} {R : X → X → Ordering} → IsTotalOrder R → (xs : List X) → IsArranged R xs → for_ranks R (λ same. same) xs ≡ xs
ranks_done o xs h = same_arranged o (for_ranks _ (λ same. same) xs) xs (ranks_arranged o xs) h (λ x. ranks_ties o x xs)

-- and back, in std's word
pub sorted_from_arranged : {X : Type 0} (R : X → X → Ordering) → (xs : List X) → IsArranged R xs → IsSorted R xs
sorted_from_arranged R [] h k d l m = absurd (omega arith)
sorted_from_arranged R (x ∷ []) h k d l m = absurd (omega arith)
sorted_from_arranged R (x ∷ (y ∷ ys)) h zero d l m = h.0.0
sorted_from_arranged {X} R (x ∷ (y ∷ ys)) h (suc k) d l m = let e : suc (k + 1) ≡ suc k + 1 = omega arith in subst (λ n. is_lt (R (get_or (x ∷ (y ∷ ys)) n d) (get_or (y ∷ ys) k d)) ≡ false) e (sorted_from_arranged R (y ∷ ys) h.1 k d (omega arith) (omega arith))
