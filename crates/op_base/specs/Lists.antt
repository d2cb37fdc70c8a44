-- Lists of any items: joined, interleaved, merged, one holder among several, in order, and their runs.
use Rattle.std.specs.Prelude.{◌≡◌, ℕ, zero, suc, Bool, false, ◌⊎◌, List, [], ◌∷◌, ◌++◌, map, take, drop, length, max, ⊤}
use Rattle.std.specs.declared.cmp.Ordering.{Ordering}
use Rattle.std.specs.declared.cmp.Ordering.TheVariants.{Less, Equal, Greater}
use Rattle.std.specs.Ordering.{is_lt, is_eq}
use Rattle.std.specs.List.{AllByRecursion, filter, flat_map}
pub use Rattle.streams.specs.Lists.{AllEmpty, Interleaves, IsLeast, Merges}

-- one after another
abbrev pub joined : {X : Type 0} → List (List X) → List X
joined lists = flat_map (λ xs. xs) lists

-- one item of each list in turn, n times; a list that has ended is skipped
abbrev pub rounds : {X : Type 0} → ℕ → List (List X) → List X
rounds zero lists = []
rounds (suc n) lists = flat_map (take 1) lists ++ rounds n (map (drop 1) lists)

abbrev pub longest : {X : Type 0} → List (List X) → ℕ
longest [] = 0
longest (xs ∷ lists) = max (length xs) (longest lists)

-- one item of each list in turn, until all have ended
abbrev pub in_turn : {X : Type 0} → List (List X) → List X
in_turn lists = rounds (longest lists) lists

-- one list is the whole, and no other has anything
abbrev pub OneHolds : {X : Type 0} → List (List X) → List X → Type 0
OneHolds [] whole = ⊥
OneHolds (xs ∷ lists) whole = ((xs ≡ whole) × AllEmpty lists) ⊎ ((xs ≡ []) × OneHolds lists whole)

-- no item is below one before it
abbrev pub IsArranged : {X : Type 0} → (X → X → Ordering) → List X → Type 0
IsArranged cmp [] = ⊤
IsArranged cmp (x ∷ xs) = AllByRecursion (λ y. is_lt (cmp y x) ≡ false) xs × IsArranged cmp xs

abbrev pub put_at : {X : Type 0} → Ordering → X → X → List X → List X → List X
put_at Less x y ys later = x ∷ (y ∷ ys)
put_at Equal x y ys later = x ∷ ys
put_at Greater x y ys later = y ∷ later

-- x as the one item of its rank among items that ascend
abbrev pub with_rank : {X : Type 0} → (X → X → Ordering) → X → List X → List X
with_rank cmp x [] = x ∷ []
with_rank cmp x (y ∷ ys) = put_at (cmp x y) x y ys (with_rank cmp x ys)

-- the first item of each rank, in order
abbrev pub firsts : {X : Type 0} → (X → X → Ordering) → List X → List X
firsts cmp [] = []
firsts cmp (x ∷ xs) = with_rank cmp x (firsts cmp xs)

-- the items of each rank, in their order
abbrev pub arranged_by : {X : Type 0} → (X → X → Ordering) → List X → List X
arranged_by cmp xs = flat_map (λ x. filter (λ y. is_eq (cmp y x)) xs) (firsts cmp xs)

abbrev pub ties : {X : Type 0} → (X → X → Ordering) → X → X → Bool
ties cmp x y = is_eq (cmp x y)

-- x before some runs of items that tie
abbrev pub onto_run : {X : Type 0} → (X → X → Ordering) → X → List (List X) → List (List X)
onto_run cmp x runs = Rattle.streams.specs.Lists.onto_run (ties cmp) x runs

-- the longest lists of neighbours that tie
abbrev pub runs_of : {X : Type 0} → (X → X → Ordering) → List X → List (List X)
runs_of cmp xs = Rattle.streams.specs.Lists.runs_of (ties cmp) xs

-- the last item, if there is one
abbrev pub last_one : {X : Type 0} → List X → List X
last_one [] = []
last_one (x ∷ []) = x ∷ []
last_one (x ∷ (y ∷ ys)) = last_one (y ∷ ys)
