-- Laws of orders.
use Rattle.std.specs.Prelude.{◌≡◌, ℕ, true, List}
use Rattle.flow_graph.specs.declared.flow.LinkSpec.{LinkSpec}
use Rattle.flow_shape.specs.Links.{OnCycle, IsOrder, is_done}

-- links have one order only
abbrev pub OneOrder : Type 0
OneOrder = (n : ℕ) (links : List LinkSpec) (a b : List ℕ) → IsOrder n links a → IsOrder n links b → a ≡ b

-- an operator of the order is on no cycle
abbrev pub OrderedIsFree : Type 0
OrderedIsFree = (n : ℕ) (links : List LinkSpec) (order : List ℕ) (i : ℕ) → IsOrder n links order → is_done order i ≡ true → OnCycle links i → ⊥
