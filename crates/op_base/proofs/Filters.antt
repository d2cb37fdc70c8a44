-- What a filter does to a filter, and to lists of lists.
use Rattle.std.proofs.Common.{Bool, List, ap, ap₂, arith, false, filter, inl, inr, length, map, refl, subst, sym, true, ◌≡◌, ◌<◌, ◌∷◌, ◌++◌, ◌∙◌, []}
use Rattle.op_base.specs.Lists.{AllEmpty, OneHolds, joined}

-- q passes only what p passes
pub filter_within : {X : Type 0} (p q : X → Bool) → ((x : X) → q x ≡ true → p x ≡ true) → (xs : List X) → filter q (filter p xs) ≡ filter q xs
filter_within p q h [] = refl
filter_within p q h (x ∷ xs) = grind (arith, filter_within p q h xs, h x)

pub filter_apart : {X : Type 0} (p q : X → Bool) → ((x : X) → q x ≡ true → p x ≡ false) → (xs : List X) → filter q (filter p xs) ≡ []
filter_apart p q h [] = refl
filter_apart p q h (x ∷ xs) = grind (arith, filter_apart p q h xs, h x)

pub filter_swap : {X : Type 0} (p q : X → Bool) → (xs : List X) → filter q (filter p xs) ≡ filter p (filter q xs)
filter_swap p q [] = refl
filter_swap p q (x ∷ xs) = grind (arith, filter_swap p q xs)

pub map_filter_within : {X : Type 0} (p q : X → Bool) → ((x : X) → q x ≡ true → p x ≡ true) → (ls : List (List X)) → map (filter q) (map (filter p) ls) ≡ map (filter q) ls
map_filter_within p q h [] = refl
map_filter_within p q h (xs ∷ ls) = ap₂ (λ a b. a ∷ b) (filter_within p q h xs) (map_filter_within p q h ls)

pub map_filter_apart : {X : Type 0} (p q : X → Bool) → ((x : X) → q x ≡ true → p x ≡ false) → (ls : List (List X)) → AllEmpty (map (filter q) (map (filter p) ls))
map_filter_apart p q h [] = tt
map_filter_apart p q h (xs ∷ ls) = (filter_apart p q h xs, map_filter_apart p q h ls)

pub empty_filter : {X : Type 0} (p : X → Bool) → (ls : List (List X)) → AllEmpty ls → AllEmpty (map (filter p) ls)
empty_filter p [] h = tt
empty_filter p (xs ∷ ls) h = (ap (filter p) h.0, empty_filter p ls h.1)

pub holds_filter : {X : Type 0} (p : X → Bool) → (ls : List (List X)) (whole : List X) → OneHolds ls whole → OneHolds (map (filter p) ls) (filter p whole)
holds_filter p [] whole h = h
holds_filter p (xs ∷ ls) whole (inl h) = inl (ap (filter p) h.0, empty_filter p ls h.1)
holds_filter p (xs ∷ ls) whole (inr h) = inr (ap (filter p) h.0, holds_filter p ls whole h.1)

-- what holds of a test holds of a finer one
pub holds_finer : {X : Type 0} (p q : X → Bool) → ((x : X) → q x ≡ true → p x ≡ true) → (ls : List (List X)) (whole : List X) → OneHolds (map (filter p) ls) (filter p whole) → OneHolds (map (filter q) ls) (filter q whole)
holds_finer p q h ls whole o =
    let k = holds_filter q (map (filter p) ls) (filter p whole) o in
    subst (λ ms. OneHolds ms (filter q whole)) (map_filter_within p q h ls) (subst (λ w. OneHolds (map (filter q) (map (filter p) ls)) w) (filter_within p q h whole) k)

pub holds_map : {X Y : Type 0} (f : List X → List Y) → f [] ≡ [] → (ls : List (List X)) (whole : List X) → OneHolds ls whole → OneHolds (map f ls) (f whole)
holds_map f none [] whole h = h
holds_map {X} {Y} f none (xs ∷ ls) whole (inl h) = inl (ap f h.0, empties ls h.1)
  where
    empties : (ms : List (List X)) → AllEmpty ms → AllEmpty (map f ms)
    empties [] k = tt
    empties (ys ∷ ms) k = (ap f k.0 ∙ none, empties ms k.1)
holds_map f none (xs ∷ ls) whole (inr h) = inr (ap f h.0 ∙ none, holds_map f none ls whole h.1)

pub map_through : {X : Type 0} (p : X → Bool) (f : List X → List X) → ((xs : List X) → filter p (f xs) ≡ f (filter p xs)) → (ls : List (List X)) → map (filter p) (map f ls) ≡ map f (map (filter p) ls)
map_through p f h [] = refl
map_through p f h (xs ∷ ls) = ap₂ (λ a b. a ∷ b) (h xs) (map_through p f h ls)

pub none_joined : {X : Type 0} (p : X → Bool) (ls : List (List X)) → joined (map (filter p) ls) ≡ [] → AllEmpty (map (filter p) ls)
none_joined p [] e = tt
none_joined {X} p (xs ∷ ls) e = (empty_left (filter p xs) (joined (map (filter p) ls)) e, none_joined p ls (empty_right (filter p xs) (joined (map (filter p) ls)) e))
  where
    empty_left : (as1 bs : List X) → as1 ++ bs ≡ [] → as1 ≡ []
    empty_left [] bs f = refl
    empty_left (a ∷ as1) bs f = cc

    empty_right : (as1 bs : List X) → as1 ++ bs ≡ [] → bs ≡ []
    empty_right [] bs f = f
    empty_right (a ∷ as1) bs f = cc

pub holds_none : {X : Type 0} → (ls : List (List X)) → 0 < length ls → AllEmpty ls → OneHolds ls []
holds_none [] l h = absurd (omega arith)
holds_none (xs ∷ ls) l h = inl h

pub holds_nothing : {X : Type 0} → (ls : List (List X)) (whole : List X) → AllEmpty ls → OneHolds ls whole → whole ≡ []
holds_nothing [] whole h k = absurd k
holds_nothing (xs ∷ ls) whole h (inl k) = sym k.0 ∙ h.0
holds_nothing (xs ∷ ls) whole h (inr k) = holds_nothing ls whole h.1 k.1
