-- Lists in order: a list is known by its order and by its ties.
use Rattle.std.proofs.Common.{Bool, List, ap, ap₂, cond, false, filter, inl, inr, refl, sym, true, true≢false, ◌≡◌, ◌⊎◌, ◌∷◌, ◌∙◌, []}
use Rattle.std.proofs.lemmas.Cmp.{tied_back, tied_itself}
use Rattle.std.specs.Cmp.{IsTotalOrder}
use Rattle.std.specs.List.{AllByRecursion}
use Rattle.std.specs.Ordering.{is_eq, is_lt, ordering_reverse}
use Rattle.std.specs.declared.cmp.Ordering.{Ordering}
use Rattle.std.specs.declared.cmp.Ordering.TheVariants.{Equal, Greater, Less}
use Rattle.op_base.specs.Lists.{IsArranged}
use Rattle.op_base.proofs.All.{all_filter}

-- y ties with x
abbrev pub tie : {X : Type 0} → (X → X → Ordering) → X → X → Bool
tie cmp x y = is_eq (cmp y x)

pub arranged_filter : {X : Type 0} (cmp : X → X → Ordering) (p : X → Bool) → (xs : List X) → IsArranged cmp xs → IsArranged cmp (filter p xs)
arranged_filter cmp p [] h = tt
arranged_filter {X} cmp p (x ∷ xs) h = go (p x) (arranged_filter cmp p xs h.1)
  where
    go : (b : Bool) → IsArranged cmp (filter p xs) → IsArranged cmp (cond b (x ∷ filter p xs) (filter p xs))
    go true k = (all_filter (λ (y : X). is_lt (cmp y x) ≡ false) p xs h.0, k)
    go false k = k

-- nothing among items that are not below b ties with what is below b
pub none_tie : {X : Type 0} {R : X → X → Ordering} → IsTotalOrder R → (a b : X) (ys : List X) → R a b ≡ Less → AllByRecursion (λ y. is_lt (R y b) ≡ false) ys → filter (tie R a) ys ≡ []
none_tie o a b [] l h = refl
none_tie {X} {R} o a b (y ∷ ys) l h = go (R y a) refl (none_tie o a b ys l h.1)
  where
    go : (c : Ordering) → R y a ≡ c → filter (tie R a) ys ≡ [] → cond (is_eq c) (y ∷ filter (tie R a) ys) (filter (tie R a) ys) ≡ []
    go Less e k = k
    go Equal e k = let f : R y b ≡ Less = o.congr y a b e ∙ l in absurd (true≢false (ap is_lt (sym f) ∙ h.0))
    go Greater e k = k

pub first_tie : {X : Type 0} {R : X → X → Ordering} → IsTotalOrder R → (a : X) (xs : List X) → filter (tie R a) (a ∷ xs) ≡ a ∷ filter (tie R a) xs
first_tie {X} {R} o a xs = ap (λ c. cond (is_eq c) (a ∷ filter (tie R a) xs) (filter (tie R a) xs)) (tied_itself o a)

-- the head of a list in order is not below that of another with the same ties
not_below : {X : Type 0} {R : X → X → Ordering} → IsTotalOrder R → (a b : X) (xs ys : List X) → R a b ≡ Less → IsArranged R (b ∷ ys) → filter (tie R a) (a ∷ xs) ≡ filter (tie R a) (b ∷ ys) → ⊥
not_below {X} {R} o a b xs ys l h e =
    let none : filter (tie R a) (b ∷ ys) ≡ [] = none_tie o a b (b ∷ ys) l (ap is_lt (tied_itself o b), h.0) in
    let some = first_tie o a xs in cc

same_tail : {X : Type 0} (p : X → Bool) (a : X) (xs ys : List X) → filter p (a ∷ xs) ≡ filter p (a ∷ ys) → filter p xs ≡ filter p ys
same_tail p a xs ys = go (p a)
  where
    go : (b : Bool) → cond b (a ∷ filter p xs) (filter p xs) ≡ cond b (a ∷ filter p ys) (filter p ys) → filter p xs ≡ filter p ys
    go true e = cc
    go false e = e

-- two lists in order that tie alike are one
pub same_arranged : {X : Type 0} {R : X → X → Ordering} → IsTotalOrder R → (xs ys : List X) → IsArranged R xs → IsArranged R ys → ((x : X) → filter (tie R x) xs ≡ filter (tie R x) ys) → xs ≡ ys
same_arranged o [] [] h k t = refl
same_arranged o [] (y ∷ ys) h k t = let e = t y in let f = first_tie o y ys in cc
same_arranged o (x ∷ xs) [] h k t = let e = t x in let f = first_tie o x xs in cc
same_arranged {X} {R} o (x ∷ xs) (y ∷ ys) h k t = go (R x y) refl (same_arranged o xs ys h.1 k.1)
  where
    go : (c : Ordering) → R x y ≡ c → (((z : X) → filter (tie R z) xs ≡ filter (tie R z) ys) → xs ≡ ys) → x ∷ xs ≡ y ∷ ys
    go Less e rec = absurd (not_below o x y xs ys e k (t x))
    go Equal e rec =
        let f = first_tie o x xs in
        let g : filter (tie R x) (y ∷ ys) ≡ y ∷ filter (tie R x) ys = ap (λ c. cond (is_eq c) (y ∷ filter (tie R x) ys) (filter (tie R x) ys)) (tied_back o x y e) in
        let s = t x in
        let q : x ≡ y = cc in
        ap₂ (λ a b. a ∷ b) q (rec (λ z. same_tail (tie R z) x xs ys (t z ∙ ap (λ w. filter (tie R z) (w ∷ ys)) (sym q))))
    go Greater e rec = absurd (not_below o y x ys xs (o.antisymm y x ∙ ap ordering_reverse e) h (sym (t y)))

-- a first item that passes, if there is one
pub witness : {X : Type 0} (p : X → Bool) (xs : List X) → (filter p xs ≡ []) ⊎ ((x : X) × (p x ≡ true))
witness p [] = inl refl
witness {X} p (x ∷ xs) = go (p x) refl (witness p xs)
  where
    go : (b : Bool) → p x ≡ b → (filter p xs ≡ []) ⊎ ((x : X) × (p x ≡ true)) → (cond b (x ∷ filter p xs) (filter p xs) ≡ []) ⊎ ((x : X) × (p x ≡ true))
    go true e r = inr (x, e)
    go false e r = r

-- two lists pass a test alike if they do wherever something passes it
pub same_by_witness : {X : Type 0} (p : X → Bool) (xs ys : List X) → ((x : X) → p x ≡ true → filter p xs ≡ filter p ys) → filter p xs ≡ filter p ys
same_by_witness {X} p xs ys h = go (witness p xs) (witness p ys)
  where
    go : ((filter p xs ≡ []) ⊎ ((x : X) × (p x ≡ true))) → ((filter p ys ≡ []) ⊎ ((x : X) × (p x ≡ true))) → filter p xs ≡ filter p ys
    go (inl e) (inl f) = e ∙ sym f
    go (inr w) k = h w.0 w.1
    go (inl e) (inr w) = h w.0 w.1
