-- Lists of items and how they come together.
use Rattle.std.specs.Prelude.{◌≡◌, ◌⊎◌, ℕ, zero, suc, ◌<◌, Bool, true, false, if◌then◌else◌, ◌&&◌, ◌||◌, List, [], ◌∷◌, ◌++◌, length, get_or, set}
use Rattle.std.specs.declared.cmp.Ordering.{Ordering}
use Rattle.std.specs.declared.cmp.Ordering.TheVariants.{Less}
use Rattle.std.specs.Ordering.{is_lt}
use Rattle.std.specs.List.{AllByRecursion}

-- x is a member
abbrev pub IsIn : {A : Type 0} → A → List A → Type 0
IsIn x [] = ⊥
IsIn x (y ∷ ys) = (x ≡ y) ⊎ IsIn x ys

abbrev pub any_of : {A : Type 0} → (A → Bool) → List A → Bool
any_of p [] = false
any_of p (x ∷ xs) = p x || any_of p xs

abbrev pub all_of : {A : Type 0} → (A → Bool) → List A → Bool
all_of p [] = true
all_of p (x ∷ xs) = p x && all_of p xs

abbrev pub is_empty : {A : Type 0} → List A → Bool
is_empty [] = true
is_empty (x ∷ xs) = false

abbrev pub AllEmpty : {X : Type 0} → List (List X) → Type 0
AllEmpty lists = AllByRecursion (λ xs. xs ≡ []) lists

-- the first item is the first of some list, and the rest interleaves what is left
abbrev pub Interleaves : {X : Type 0} → List (List X) → List X → Type 0
Interleaves lists [] = AllEmpty lists
Interleaves {X} lists (x ∷ xs) = (i : ℕ) × (rest : List X) × (i < length lists) × (get_or lists i [] ≡ x ∷ rest) × Interleaves (set lists i rest) xs

-- neighbours that are the same come together: x before some runs
abbrev pub onto_run : {X : Type 0} → (X → X → Bool) → X → List (List X) → List (List X)
onto_run same x [] = (x ∷ []) ∷ []
onto_run same x ([] ∷ runs) = (x ∷ []) ∷ runs
onto_run same x ((y ∷ run) ∷ runs) = if same x y then (x ∷ (y ∷ run)) ∷ runs else (x ∷ []) ∷ ((y ∷ run) ∷ runs)

-- the runs of a list: its longest parts whose neighbours are the same
abbrev pub runs_of : {X : Type 0} → (X → X → Bool) → List X → List (List X)
runs_of same [] = []
runs_of same (x ∷ xs) = onto_run same x (runs_of same xs)

-- k lists from the p-th on
abbrev pub lists_from : {X : Type 0} → (ℕ → List X) → ℕ → ℕ → List (List X)
lists_from lists p zero = []
lists_from lists p (suc k) = lists p ∷ lists_from lists (suc p) k

-- one after another
abbrev pub joined_from : {X : Type 0} → (ℕ → List X) → ℕ → ℕ → List X
joined_from lists p zero = []
joined_from lists p (suc k) = lists p ++ joined_from lists (suc p) k

-- x is the least of what waits, and of the first list that has such
abbrev pub IsLeast : {X : Type 0} → (X → X → Ordering) → List (List X) → ℕ → X → Type 0
IsLeast {X} cmp lists i x = (j : ℕ) (y : X) (rest : List X) → get_or lists j [] ≡ y ∷ rest → (is_lt (cmp y x) ≡ false) × (j < i → cmp x y ≡ Less)

-- the least of what waits, again and again
abbrev pub Merges : {X : Type 0} → (X → X → Ordering) → List (List X) → List X → Type 0
Merges cmp lists [] = AllEmpty lists
Merges {X} cmp lists (x ∷ xs) = (i : ℕ) × (rest : List X) × (i < length lists) × (get_or lists i [] ≡ x ∷ rest) × IsLeast cmp lists i x × Merges cmp (set lists i rest) xs

-- what a merge needs of an order
pub record IsOrder {X : Type 0} (cmp : X → X → Ordering) : Type 0 where
  pub itself : (x : X) → is_lt (cmp x x) ≡ false
  pub below : (x b y : X) → is_lt (cmp x b) ≡ true → is_lt (cmp y b) ≡ false → cmp x y ≡ Less
  pub one_way : (x y : X) → cmp x y ≡ Less → is_lt (cmp y x) ≡ false
