-- Partition lists against the whole list: agreement, bags, placement and order.
use Rattle.std.specs.Prelude.{◌≡◌, ℕ, suc, List, [], ◌∷◌, length, map, ⊤}
use Rattle.std.specs.List.{AllByRecursion}
use Rattle.std.specs.List.Sorted.{IsPermutation}
use Rattle.ds_value.specs.declared.value.Value.{Value}
use Rattle.ds_schema.specs.declared.key.Key.{Key}
use Rattle.ds_schema.specs.Rows.{sub, row_cmp}
use Rattle.op_base.specs.Columns.{Row}
use Rattle.op_base.specs.Lists.{joined, OneHolds, IsArranged}
use Rattle.ds_place.specs.declared.place.Place.{Place}
use Rattle.ds_place.specs.Places.{place_number}

-- of each value of the columns, one partition has the rows as the whole has them, and no other has any
abbrev pub Agree : List ℕ → List (List Row) → List Row → Type 0
Agree columns parts whole = (v : List Value) → OneHolds (map (sub columns v) parts) (sub columns v whole)

-- the partitions joined are a permutation of the whole
abbrev pub Bag : List (List Row) → List Row → Type 0
Bag parts whole = IsPermutation (joined parts) whole

-- each item of list n + i belongs there
abbrev pub PlacedFrom : {X : Type 0} → (X → ℕ) → ℕ → List (List X) → Type 0
PlacedFrom place n [] = ⊤
PlacedFrom place n (xs ∷ lists) = AllByRecursion (λ x. place x ≡ n) xs × PlacedFrom place (suc n) lists

-- each row of a partition belongs there by the place
abbrev pub Placed : Place → List (List Row) → Type 0
Placed place parts = PlacedFrom (λ r. place_number place r (length parts)) 0 parts

-- each partition and the whole are sorted
abbrev pub Sorted : List Key → List (List Row) → List Row → Type 0
Sorted keys parts whole = AllByRecursion (IsArranged (row_cmp keys)) parts × IsArranged (row_cmp keys) whole
