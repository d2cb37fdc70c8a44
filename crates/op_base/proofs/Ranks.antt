-- What is done for each rank of a list, against a test that the ranks decide.
use Rattle.std.proofs.Common.{Bool, List, ap, ap₂, cond, false, filter, flat_map, refl, subst, sym, true, true≢false, ◌≡◌, ◌∷◌, ◌++◌, ◌∙◌, []}
use Rattle.std.proofs.lemmas.List.Elements.{filter-append}
use Rattle.std.specs.Cmp.{IsTotalOrder}
use Rattle.std.specs.List.{AllByRecursion}
use Rattle.std.specs.Ordering.{is_eq, ordering_reverse}
use Rattle.std.specs.declared.cmp.Ordering.{Ordering}
use Rattle.std.specs.declared.cmp.Ordering.TheVariants.{Equal, Greater, Less}
use Rattle.op_base.specs.Lists.{firsts, put_at, with_rank}
use Rattle.op_base.proofs.Arranged.{tie}
use Rattle.op_base.proofs.Filters.{filter_within}

-- each item is below all after it
abbrev pub Ascends : {X : Type 0} → (X → X → Ordering) → List X → Type 0
Ascends cmp [] = Unit {0}
Ascends cmp (x ∷ xs) = AllByRecursion (λ y. cmp x y ≡ Less) xs × Ascends cmp xs

all_less : {X : Type 0} {R : X → X → Ordering} → IsTotalOrder R → (x y : X) (ys : List X) → R x y ≡ Less → AllByRecursion (λ z. R y z ≡ Less) ys → AllByRecursion (λ z. R x z ≡ Less) ys
all_less o x y [] e h = tt
all_less o x y (z ∷ ys) e h = (o.trans x y z e h.0, all_less o x y ys e h.1)

all_tied : {X : Type 0} {R : X → X → Ordering} → IsTotalOrder R → (x y : X) (ys : List X) → R x y ≡ Equal → AllByRecursion (λ z. R y z ≡ Less) ys → AllByRecursion (λ z. R x z ≡ Less) ys
all_tied o x y [] e h = tt
all_tied o x y (z ∷ ys) e h = (o.congr x y z e ∙ h.0, all_tied o x y ys e h.1)

-- what is below x and below all of ys is below all once x is among them
below_rank : {X : Type 0} (R : X → X → Ordering) → (y x : X) (ys : List X) → R y x ≡ Less → AllByRecursion (λ z. R y z ≡ Less) ys → AllByRecursion (λ z. R y z ≡ Less) (with_rank R x ys)
below_rank R y x [] e h = (e, tt)
below_rank {X} R y x (z ∷ ys) e h = go (R x z) (below_rank R y x ys e h.1)
  where
    go : (c : Ordering) → AllByRecursion (λ (u : X). R y u ≡ Less) (with_rank R x ys) → AllByRecursion (λ (u : X). R y u ≡ Less) (put_at c x z ys (with_rank R x ys))
    go Less k = (e, h)
    go Equal k = (e, h.1)
    go Greater k = (h.0, k)

rank_ascends : {X : Type 0} {R : X → X → Ordering} → IsTotalOrder R → (x : X) (ys : List X) → Ascends R ys → Ascends R (with_rank R x ys)
rank_ascends o x [] h = (tt, tt)
rank_ascends {X} {R} o x (y ∷ ys) h = go (R x y) refl (rank_ascends o x ys h.1)
  where
    go : (c : Ordering) → R x y ≡ c → Ascends R (with_rank R x ys) → Ascends R (put_at c x y ys (with_rank R x ys))
    go Less e k = ((e, all_less o x y ys e h.0), h)
    go Equal e k = (all_tied o x y ys e h.0, h.1)
    go Greater e k = (below_rank R y x ys (o.antisymm y x ∙ ap ordering_reverse e) h.0, k)

pub firsts_ascend : {X : Type 0} {R : X → X → Ordering} → IsTotalOrder R → (xs : List X) → Ascends R (firsts R xs)
firsts_ascend o [] = tt
firsts_ascend {X} {R} o (x ∷ xs) = rank_ascends o x (firsts R xs) (firsts_ascend o xs)

all_kept : {X : Type 0} (P : X → Type 0) (p : X → Bool) → (xs : List X) → AllByRecursion P xs → AllByRecursion P (filter p xs)
all_kept P p [] h = tt
all_kept {X} P p (x ∷ xs) h = go (p x) (all_kept P p xs h.1)
  where
    go : (b : Bool) → AllByRecursion P (filter p xs) → AllByRecursion P (cond b (x ∷ filter p xs) (filter p xs))
    go true k = (h.0, k)
    go false k = k

-- x goes to the front of what it is below
rank_first : {X : Type 0} (R : X → X → Ordering) → (x : X) (ys : List X) → AllByRecursion (λ z. R x z ≡ Less) ys → with_rank R x ys ≡ x ∷ ys
rank_first R x [] h = refl
rank_first R x (y ∷ ys) h = ap (λ c. put_at c x y ys (with_rank R x ys)) h.0

rank_kept : {X : Type 0} {R : X → X → Ordering} → IsTotalOrder R → (p : X → Bool) → ((x y : X) → R x y ≡ Equal → p x ≡ p y) → (x : X) (ys : List X) → Ascends R ys → p x ≡ true → filter p (with_rank R x ys) ≡ with_rank R x (filter p ys)
rank_kept o p inv x [] h t = ap (λ b. cond b (x ∷ []) []) t
rank_kept {X} {R} o p inv x (y ∷ ys) h t = go (R x y) refl (p y) refl (rank_kept o p inv x ys h.1 t)
  where
    there : (b : Bool) → p x ≡ b → (zs : List X) → b ≡ true → filter p (x ∷ zs) ≡ x ∷ filter p zs
    there b e zs f = ap (λ c. cond c (x ∷ filter p zs) (filter p zs)) (e ∙ f)

    go : (c : Ordering) → R x y ≡ c → (b : Bool) → p y ≡ b → filter p (with_rank R x ys) ≡ with_rank R x (filter p ys) → filter p (put_at c x y ys (with_rank R x ys)) ≡ with_rank R x (cond b (y ∷ filter p ys) (filter p ys))
    go Less e true f k =
        there (p x) refl (y ∷ ys) t ∙ ap (λ b. x ∷ cond b (y ∷ filter p ys) (filter p ys)) f ∙ sym (ap (λ c. put_at c x y (filter p ys) (with_rank R x (filter p ys))) e)
    go Less e false f k =
        there (p x) refl (y ∷ ys) t ∙ ap (λ b. x ∷ cond b (y ∷ filter p ys) (filter p ys)) f ∙ sym (rank_first R x (filter p ys) (all_kept (λ (z : X). R x z ≡ Less) p ys (all_less o x y ys e h.0)))
    go Equal e true f k = there (p x) refl ys t ∙ sym (ap (λ c. put_at c x y (filter p ys) (with_rank R x (filter p ys))) e)
    go Equal e false f k = absurd (true≢false (sym t ∙ inv x y e ∙ f))
    go Greater e true f k =
        ap (λ b. cond b (y ∷ filter p (with_rank R x ys)) (filter p (with_rank R x ys))) f ∙ ap (λ zs. y ∷ zs) k ∙ sym (ap (λ c. put_at c x y (filter p ys) (with_rank R x (filter p ys))) e)
    go Greater e false f k = ap (λ b. cond b (y ∷ filter p (with_rank R x ys)) (filter p (with_rank R x ys))) f ∙ k

rank_dropped : {X : Type 0} {R : X → X → Ordering} → (p : X → Bool) → ((x y : X) → R x y ≡ Equal → p x ≡ p y) → (x : X) (ys : List X) → p x ≡ false → filter p (with_rank R x ys) ≡ filter p ys
rank_dropped p inv x [] t = ap (λ b. cond b (x ∷ []) []) t
rank_dropped {X} {R} p inv x (y ∷ ys) t = go (R x y) refl (rank_dropped p inv x ys t)
  where
    drops : (zs : List X) → filter p (x ∷ zs) ≡ filter p zs
    drops zs = ap (λ c. cond c (x ∷ filter p zs) (filter p zs)) t

    go : (c : Ordering) → R x y ≡ c → filter p (with_rank R x ys) ≡ filter p ys → filter p (put_at c x y ys (with_rank R x ys)) ≡ filter p (y ∷ ys)
    go Less e k = drops (y ∷ ys)
    go Equal e k = drops ys ∙ sym (ap (λ b. cond b (y ∷ filter p ys) (filter p ys)) (sym (inv x y e) ∙ t))
    go Greater e k = ap (λ zs. cond (p y) (y ∷ zs) zs) k

-- the ranks of what passes a test that the ranks decide
pub firsts_filter : {X : Type 0} {R : X → X → Ordering} → IsTotalOrder R → (p : X → Bool) → ((x y : X) → R x y ≡ Equal → p x ≡ p y) → (xs : List X) → filter p (firsts R xs) ≡ firsts R (filter p xs)
firsts_filter o p inv [] = refl
firsts_filter {X} {R} o p inv (x ∷ xs) = go (p x) refl (firsts_filter o p inv xs)
  where
    go : (b : Bool) → p x ≡ b → filter p (firsts R xs) ≡ firsts R (filter p xs) → filter p (with_rank R x (firsts R xs)) ≡ firsts R (cond b (x ∷ filter p xs) (filter p xs))
    go true e k = rank_kept o p inv x (firsts R xs) (firsts_ascend o xs) e ∙ ap (with_rank R x) k
    go false e k = rank_dropped p inv x (firsts R xs) e ∙ k

pub filter_all : {X : Type 0} (p : X → Bool) → (xs : List X) → AllByRecursion (λ x. p x ≡ true) xs → filter p xs ≡ xs
filter_all p [] h = refl
filter_all p (x ∷ xs) h = ap₂ (λ b ys. cond b (x ∷ ys) ys) h.0 (filter_all p xs h.1)

pub filter_none : {X : Type 0} (p : X → Bool) → (xs : List X) → AllByRecursion (λ x. p x ≡ false) xs → filter p xs ≡ []
filter_none p [] h = refl
filter_none p (x ∷ xs) h = ap₂ (λ b ys. cond b (x ∷ ys) ys) h.0 (filter_none p xs h.1)

pub flat_map_filter : {X Y : Type 0} (p : X → Bool) (q : Y → Bool) (g h : X → List Y) → ((x : X) → p x ≡ true → filter q (g x) ≡ h x) → ((x : X) → p x ≡ false → filter q (g x) ≡ []) → (xs : List X) → filter q (flat_map g xs) ≡ flat_map h (filter p xs)
flat_map_filter p q g h kept gone [] = refl
flat_map_filter {X} {Y} p q g h kept gone (x ∷ xs) = filter-append q (g x) (flat_map g xs) ∙ go (p x) refl (flat_map_filter p q g h kept gone xs)
  where
    go : (b : Bool) → p x ≡ b → filter q (flat_map g xs) ≡ flat_map h (filter p xs) → filter q (g x) ++ filter q (flat_map g xs) ≡ flat_map h (cond b (x ∷ filter p xs) (filter p xs))
    go true e k = ap₂ (λ a b. a ++ b) (kept x e) k
    go false e k = ap₂ (λ a b. a ++ b) (gone x e) k

-- ties of x answer p as x does
ties_answer : {X : Type 0} {R : X → X → Ordering} → (p : X → Bool) → ((x y : X) → R x y ≡ Equal → p x ≡ p y) → (x : X) (xs : List X) → AllByRecursion (λ y. p y ≡ p x) (filter (tie R x) xs)
ties_answer p inv x [] = tt
ties_answer {X} {R} p inv x (y ∷ xs) = go (R y x) refl (ties_answer p inv x xs)
  where
    go : (c : Ordering) → R y x ≡ c → AllByRecursion (λ (z : X). p z ≡ p x) (filter (tie R x) xs) → AllByRecursion (λ (z : X). p z ≡ p x) (cond (is_eq c) (y ∷ filter (tie R x) xs) (filter (tie R x) xs))
    go Less e k = k
    go Equal e k = (inv y x e, k)
    go Greater e k = k

-- done for each rank
abbrev pub for_ranks : {X Y : Type 0} → (X → X → Ordering) → (List X → List Y) → List X → List Y
for_ranks R f xs = flat_map (λ x. f (filter (tie R x) xs)) (firsts R xs)

-- What is done for each rank of what passes is what passes of it.
pub for_ranks_filter : {X Y : Type 0} {R : X → X → Ordering} → IsTotalOrder R → (f : List X → List Y) (p : X → Bool) (q : Y → Bool) → ((x y : X) → R x y ≡ Equal → p x ≡ p y) →
    ((b : Bool) (ys : List X) → AllByRecursion (λ y. p y ≡ b) ys → AllByRecursion (λ z. q z ≡ b) (f ys)) →
    (xs : List X) → filter q (for_ranks R f xs) ≡ for_ranks R f (filter p xs)
for_ranks_filter {X} {Y} {R} o f p q inv keeps xs =
    flat_map_filter p q (λ x. f (filter (tie R x) xs)) (λ x. f (filter (tie R x) (filter p xs)))
    (λ x t. filter_all q (f (filter (tie R x) xs)) (keeps true (filter (tie R x) xs) (subst (λ b. AllByRecursion (λ (y : X). p y ≡ b) (filter (tie R x) xs)) t (ties_answer p inv x xs)))
    ∙ ap f (sym (filter_within p (tie R x) (λ y s. inv y x (tied y x s) ∙ t) xs)))
    (λ x t. filter_none q (f (filter (tie R x) xs)) (keeps false (filter (tie R x) xs) (subst (λ b. AllByRecursion (λ (y : X). p y ≡ b) (filter (tie R x) xs)) t (ties_answer p inv x xs))))
    (firsts R xs)
    ∙ ap (flat_map (λ x. f (filter (tie R x) (filter p xs)))) (firsts_filter o p inv xs)
  where
    tied : (y x : X) → tie R x y ≡ true → R y x ≡ Equal
    tied y x s = go (R y x) s
      where
        go : (c : Ordering) → is_eq c ≡ true → c ≡ Equal
        go Less e = cc
        go Equal e = refl
        go Greater e = cc
