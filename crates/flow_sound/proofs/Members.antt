-- Numbers in lists, and what holds of all of them.
use Rattle.std.proofs.Common.{◌≡◌, ℕ, ◌<◌, Bool, true, false, cond, ◌⊎◌, inl, inr, List, [], ◌∷◌, ◌++◌, filter, map, refl, sym, ap, ap₂, ◌∙◌, subst, arith, IsPermutation}
use Rattle.std.specs.List.{AllByRecursion, range_with_len}
use Rattle.std.proofs.lemmas.List.Elements.{All-from_recursion, recursion_from_All}
use Rattle.std.proofs.lemmas.List.Sorted.{All-permutation, IsPermutation-sym}
use Rattle.op_base.specs.Columns.{IsIn}
use Rattle.op_base.proofs.ColumnLaws.{in_range, in_bounds, lies_self}

pub in_either : (l : ℕ) (xs ys : List ℕ) → IsIn l (xs ++ ys) → IsIn l xs ⊎ IsIn l ys
in_either l [] ys i = inr i
in_either l (x ∷ xs) ys (inl e) = inl (inl e)
in_either l (x ∷ xs) ys (inr i) = go (in_either l xs ys i)
  where
    go : (IsIn l xs ⊎ IsIn l ys) → IsIn l (x ∷ xs) ⊎ IsIn l ys
    go (inl j) = inl (inr j)
    go (inr j) = inr j

pub at_in : {X : Type 0} (P : X → Type 0) (x : X) (xs : List X) → AllByRecursion P xs → IsIn x xs → P x
at_in P x [] h i = absurd i
at_in P x (y ∷ xs) h (inl e) = subst P (sym e) h.0
at_in P x (y ∷ xs) h (inr i) = at_in P x xs h.1 i

pub all_of : {X : Type 0} (P : X → Type 0) (xs : List X) → ((x : X) → IsIn x xs → P x) → AllByRecursion P xs
all_of P [] h = tt
all_of P (x ∷ xs) h = (h x (inl refl), all_of P xs (λ y i. h y (inr i)))

pub in_filter : (p : ℕ → Bool) (l : ℕ) (xs : List ℕ) → IsIn l xs → p l ≡ true → IsIn l (filter p xs)
in_filter p l [] i e = absurd i
in_filter p l (x ∷ xs) (inl f) e = here (p x) (ap p (sym f) ∙ e)
  where
    here : (b : Bool) → b ≡ true → IsIn l (cond b (x ∷ filter p xs) (filter p xs))
    here true g = inl f
    here false g = cc
in_filter p l (x ∷ xs) (inr i) e = later (p x) (in_filter p l xs i e)
  where
    later : (b : Bool) → IsIn l (filter p xs) → IsIn l (cond b (x ∷ filter p xs) (filter p xs))
    later true j = inr j
    later false j = j

pub all_permuted : {X : Type 0} (P : X → Type 0) (xs ys : List X) → IsPermutation xs ys → AllByRecursion P xs → AllByRecursion P ys
all_permuted P xs ys p h = recursion_from_All P ys (All-permutation P xs ys p (All-from_recursion P xs h))

pub range_has : (n i : ℕ) → i < n → IsIn i (range_with_len 0 n)
range_has n i l = in_range i 0 n (omega arith) (omega arith)

pub below_range : (n i : ℕ) → IsIn i (range_with_len 0 n) → i < n
below_range n i j = let bounds = in_bounds i 0 n j in let upper = bounds.1 in omega arith

-- what is below n, in a list of all that is
pub in_all : (n i : ℕ) (xs : List ℕ) → IsPermutation (range_with_len 0 n) xs → i < n → IsIn i xs
in_all n i xs p l = at_in (λ k. IsIn k xs) i (range_with_len 0 n) (all_permuted (λ k. IsIn k xs) xs (range_with_len 0 n) (IsPermutation-sym (range_with_len 0 n) xs p) (lies_self xs)) (range_has n i l)

pub below_all : (n i : ℕ) (xs : List ℕ) → IsPermutation (range_with_len 0 n) xs → IsIn i xs → i < n
below_all n i xs p j = at_in (λ k. k < n) i xs (all_permuted (λ k. k < n) (range_with_len 0 n) xs p (all_of (λ k. k < n) (range_with_len 0 n) (below_range n))) j

pub all_mapped : {X Y : Type 0} (P : Y → Type 0) (g : X → Y) (xs : List X) → ((x : X) → IsIn x xs → P (g x)) → AllByRecursion P (map g xs)
all_mapped P g [] h = tt
all_mapped P g (x ∷ xs) h = (h x (inl refl), all_mapped P g xs (λ y i. h y (inr i)))

pub of_mapped : {X Y : Type 0} (P : Y → Type 0) (g : X → Y) (x : X) (xs : List X) → AllByRecursion P (map g xs) → IsIn x xs → P (g x)
of_mapped P g x [] h i = absurd i
of_mapped P g x (y ∷ xs) h (inl e) = subst (λ z. P (g z)) (sym e) h.0
of_mapped P g x (y ∷ xs) h (inr i) = of_mapped P g x xs h.1 i

pub same_map : {Y : Type 0} (v w : ℕ → Y) (ls : List ℕ) → ((l : ℕ) → IsIn l ls → v l ≡ w l) → map v ls ≡ map w ls
same_map v w [] h = refl
same_map v w (l ∷ ls) h = ap₂ (λ a b. a ∷ b) (h l (inl refl)) (same_map v w ls (λ k i. h k (inr i)))
