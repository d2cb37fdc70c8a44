-- Where a place holds a class whole, order decides it.
use Rattle.std.proofs.Common.{Bool, List, ap, append-nil, ap₂, arith, cond, false, filter, get_or, inl, inr, length, map, refl, suc, sym, true, zero, ℕ, ◌≡◌, ◌+◌, ◌<◌, ◌⊎◌, ◌∷◌, ◌++◌, ◌∙◌, ◌&&◌, []}
use Rattle.std.proofs.lemmas.List.{get_or-map}
use Rattle.std.specs.Cmp.{IsTotalOrder}
use Rattle.std.specs.List.{AllByRecursion}
use Rattle.std.specs.declared.cmp.Ordering.{Ordering}
use Rattle.flow_graph.specs.Parts.{PlacedFrom}
use Rattle.op_base.specs.Columns.{Row}
use Rattle.op_base.specs.Lists.{AllEmpty, IsArranged, OneHolds, joined}
use Rattle.op_base.proofs.All.{all_at, and_split, both_true}
use Rattle.op_base.proofs.Arranged.{arranged_filter, same_arranged, same_by_witness, tie}
use Rattle.op_base.proofs.Filters.{holds_finer, holds_nothing}
use Rattle.op_base.proofs.Interleavings.{empty_at}

-- items that lie at n, when the class lies elsewhere
pub none_here : {X : Type 0} (d : X → ℕ) (p : X → Bool) (j n : ℕ) → ((x : X) → p x ≡ true → d x ≡ j) → (n ≡ j → ⊥) → (xs : List X) → AllByRecursion (λ x. d x ≡ n) xs → filter p xs ≡ []
none_here d p j n to e [] h = refl
none_here {X} d p j n to e (x ∷ xs) h = go (p x) refl (none_here d p j n to e xs h.1)
  where
    go : (b : Bool) → p x ≡ b → filter p xs ≡ [] → cond b (x ∷ filter p xs) (filter p xs) ≡ []
    go true f k = absurd (e (sym h.0 ∙ to x f))
    go false f k = k

pub none_after : {X : Type 0} (d : X → ℕ) (p : X → Bool) (j : ℕ) → ((x : X) → p x ≡ true → d x ≡ j) → (n : ℕ) (parts : List (List X)) → j < n → PlacedFrom d n parts → AllEmpty (map (filter p) parts)
none_after d p j to n [] l h = tt
none_after d p j to n (xs ∷ parts) l h = (none_here d p j n to (λ e. omega arith) xs h.0, none_after d p j to (suc n) parts (omega arith) h.1)

-- the partition of a class has it whole
pub one_at : {X : Type 0} (d : X → ℕ) (p : X → Bool) (j : ℕ) → ((x : X) → p x ≡ true → d x ≡ j) → (n i : ℕ) (parts : List (List X)) (whole : List X) → j ≡ n + i → i < length parts → PlacedFrom d n parts → OneHolds (map (filter p) parts) (filter p whole) → filter p (get_or parts i []) ≡ filter p whole
one_at d p j to n i [] whole e l h k = absurd (omega arith)
one_at d p j to n zero (xs ∷ parts) whole e l h (inl k) = k.0
one_at d p j to n zero (xs ∷ parts) whole e l h (inr k) = k.0 ∙ sym (holds_nothing (map (filter p) parts) (filter p whole) (none_after d p j to (suc n) parts (omega arith) h.1) k.1)
one_at d p j to n (suc i) (xs ∷ parts) whole e l h (inl k) =
    sym (get_or-map (filter p) parts i [] [] (omega arith)) ∙ empty_at (map (filter p) parts) i k.1 ∙ sym (none_here d p j n to (λ f. omega arith) xs h.0) ∙ k.0
one_at d p j to n (suc i) (xs ∷ parts) whole e l h (inr k) = one_at d p j to (suc n) i parts whole (omega arith) (omega arith) h.1 k.1

-- and if it does, no other has any of it
pub holds_at : {X : Type 0} (d : X → ℕ) (p : X → Bool) (j : ℕ) → ((x : X) → p x ≡ true → d x ≡ j) → (n i : ℕ) (parts : List (List X)) (whole : List X) → j ≡ n + i → i < length parts → PlacedFrom d n parts → filter p (get_or parts i []) ≡ filter p whole → OneHolds (map (filter p) parts) (filter p whole)
holds_at d p j to n i [] whole e l h k = absurd (omega arith)
holds_at d p j to n zero (xs ∷ parts) whole e l h k = inl (k, none_after d p j to (suc n) parts (omega arith) h.1)
holds_at d p j to n (suc i) (xs ∷ parts) whole e l h k = inr (none_here d p j n to (λ f. omega arith) xs h.0, holds_at d p j to (suc n) i parts whole (omega arith) (omega arith) h.1 k)

-- A class that lies in one place is there as a whole, if both sides are in order and each tie in it has an agreeing test.
pub regained : {X : Type 0} {R : X → X → Ordering} → IsTotalOrder R → (d : X → ℕ) (p : X → Bool) (j : ℕ) → ((x : X) → p x ≡ true → d x ≡ j) → (parts : List (List X)) (whole : List X) → j < length parts → PlacedFrom d 0 parts
    → AllByRecursion (IsArranged R) parts → IsArranged R whole
    → ((x z : X) → (p z && tie R x z) ≡ true → (w : X → Bool) × ((y : X) → (p y && tie R x y) ≡ true → w y ≡ true) × OneHolds (map (filter w) parts) (filter w whole))
    → OneHolds (map (filter p) parts) (filter p whole)
regained {X} {R} o d p j to parts whole l placed up upw finer =
    holds_at d p j to 0 j parts whole (omega arith) l placed
    (same_arranged o (filter p (get_or parts j [])) (filter p whole)
    (arranged_filter R p (get_or parts j []) (all_at (IsArranged R) tt parts j up))
    (arranged_filter R p whole upw)
    (λ x. and_split p (tie R x) (get_or parts j [])
    ∙ same_by_witness (λ y. p y && tie R x y) (get_or parts j []) whole (λ z t.
    let f = finer x z t in
    one_at d (λ y. p y && tie R x y) j (λ y s. to y (both_true (p y) (tie R x y) s).0) 0 j parts whole (omega arith) l placed
    (holds_finer f.0 (λ y. p y && tie R x y) f.1 parts whole f.2))
    ∙ sym (and_split p (tie R x) whole)))

-- what passes in all partitions passes in one, where the place says which
pub at_one : {X : Type 0} (d : X → ℕ) (p : X → Bool) (j : ℕ) → ((x : X) → p x ≡ true → d x ≡ j) → (n i : ℕ) (parts : List (List X)) → j ≡ n + i → i < length parts → PlacedFrom d n parts → joined (map (filter p) parts) ≡ filter p (get_or parts i [])
at_one d p j to n i [] e l h = absurd (omega arith)
at_one {X} d p j to n zero (xs ∷ parts) e l h = ap (λ ys. filter p xs ++ ys) (nothing (map (filter p) parts) (none_after d p j to (suc n) parts (omega arith) h.1)) ∙ append-nil (filter p xs)
  where
    nothing : (ls : List (List X)) → AllEmpty ls → joined ls ≡ []
    nothing [] k = refl
    nothing (ys ∷ ls) k = ap₂ (λ a b. a ++ b) k.0 (nothing ls k.1)
at_one d p j to n (suc i) (xs ∷ parts) e l h = ap (λ ys. ys ++ joined (map (filter p) parts)) (none_here d p j n to (λ f. omega arith) xs h.0) ∙ at_one d p j to (suc n) i parts (omega arith) (omega arith) h.1

pub filtered : {X : Type 0} (p : X → Bool) (x : X) (xs : List X) → AllByRecursion (λ y. p y ≡ true → y ≡ x) xs → AllByRecursion (λ y. y ≡ x) (filter p xs)
filtered p x [] h = tt
filtered {X} p x (y ∷ ys) h = go (p y) refl (filtered p x ys h.1)
  where
    go : (b : Bool) → p y ≡ b → AllByRecursion (λ (z : X). z ≡ x) (filter p ys) → AllByRecursion (λ (z : X). z ≡ x) (cond b (y ∷ filter p ys) (filter p ys))
    go true e k = (h.0 e, k)
    go false e k = k

-- a first item that passes, of the list
pub some_passing : {X : Type 0} (P : X → Type 0) (p : X → Bool) (xs : List X) → AllByRecursion P xs → (filter p xs ≡ []) ⊎ ((x : X) × (p x ≡ true) × P x)
some_passing P p [] h = inl refl
some_passing {X} P p (x ∷ xs) h = go (p x) refl (some_passing P p xs h.1)
  where
    go : (b : Bool) → p x ≡ b → (filter p xs ≡ []) ⊎ ((y : X) × (p y ≡ true) × P y) → (cond b (x ∷ filter p xs) (filter p xs) ≡ []) ⊎ ((y : X) × (p y ≡ true) × P y)
    go true e k = inr (x, e, h.0)
    go false e k = k

pub map_all : (P Q : Row → Type 0) → ((r : Row) → P r → Q r) → (xs : List Row) → AllByRecursion P xs → AllByRecursion Q xs
map_all P Q f [] h = tt
map_all P Q f (r ∷ xs) h = (f r h.0, map_all P Q f xs h.1)

pub const_lists : {X : Type 0} (x : X) (xs ys : List X) → AllByRecursion (λ y. y ≡ x) xs → AllByRecursion (λ y. y ≡ x) ys → length xs ≡ length ys → xs ≡ ys
const_lists x [] [] h k e = refl
const_lists x [] (y ∷ ys) h k e = absurd (omega arith)
const_lists x (z ∷ xs) [] h k e = absurd (omega arith)
const_lists x (z ∷ xs) (y ∷ ys) h k e = ap₂ (λ a b. a ∷ b) (h.0 ∙ sym k.0) (const_lists x xs ys h.1 k.1 (omega arith))
