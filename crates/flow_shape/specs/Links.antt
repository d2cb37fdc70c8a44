-- Links between operators, cycles, and the order of the operators.
use Rattle.std.specs.Prelude.{◌≡◌, ◌==◌, ◌<◌, ◌++◌, ℕ, zero, suc, List, [], ◌∷◌, Bool, true, false, not, ◌&&◌, ◌||◌, get_or}
use Rattle.std.specs.List.{list_any, list_all, AllByRecursion}
use Rattle.flow_graph.specs.declared.flow.LinkSpec.{LinkSpec}
use Rattle.flow_shape.specs.Lowest.{IsLowest}

abbrev pub joins : ℕ → ℕ → LinkSpec → Bool
joins a b l = (l.from == a) && (l.to == b)

-- whether a link leads from a to b
abbrev pub feeds : List LinkSpec → ℕ → ℕ → Bool
feeds links a b = list_any (joins a b) links

-- a way of n links
abbrev pub Way : List LinkSpec → ℕ → ℕ → ℕ → Type 0
Way links a b zero = a ≡ b
Way links a b (suc n) = (c : ℕ) × Way links a c n × (feeds links c b ≡ true)

abbrev pub Reaches : List LinkSpec → ℕ → ℕ → Type 0
Reaches links a b = (n : ℕ) × Way links a b (suc n)

abbrev pub OnCycle : List LinkSpec → ℕ → Type 0
OnCycle links i = Reaches links i i

-- each link stands between two of n operators
abbrev pub AreWithin : ℕ → List LinkSpec → Type 0
AreWithin n links = AllByRecursion (λ (l : LinkSpec). (l.from < n) × (l.to < n)) links

abbrev pub is_done : List ℕ → ℕ → Bool
is_done done i = list_any (λ j. j == i) done

-- an operator that isn't done, and whose producers are done
abbrev pub is_ready : List LinkSpec → List ℕ → ℕ → Bool
is_ready links done i = not (is_done done i) && list_all (λ (l : LinkSpec). not (l.to == i) || is_done done l.from) links

-- always the lowest that is ready, until none is
abbrev pub Follows : ℕ → List LinkSpec → List ℕ → List ℕ → Type 0
Follows n links done [] = (j : ℕ) → j < n → is_ready links done j ≡ false
Follows n links done (i ∷ more) = IsLowest n (λ j. is_ready links done j ≡ true) i × Follows n links (done ++ i ∷ []) more

-- the topological order, as far as there is one
abbrev pub IsOrder : ℕ → List LinkSpec → List ℕ → Type 0
IsOrder n links order = Follows n links [] order

-- every operator stands in the order
abbrev pub IsWhole : ℕ → List ℕ → Type 0
IsWhole n order = (j : ℕ) → j < n → is_done order j ≡ true

-- in the search for what an operator reaches: a link from what is reached to what isn't yet
abbrev pub is_open : ℕ → List Bool → LinkSpec → Bool
is_open start marks l = ((l.from == start) || get_or marks l.from false) && not (get_or marks l.to true)
