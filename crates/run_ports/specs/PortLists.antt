-- What an operator gives for whole lists, one for each of its ports.
use Rattle.std.specs.Prelude.{◌≡◌, ℕ, Bool, true, List, [], ◌++◌, get_or}
use Rattle.streams.specs.Streams.{Item, Feed, Out, items_of, Fed, whole, Gives}
use Rattle.op_base.specs.declared.fault.Fault.{Fault}
use Rattle.op_base.specs.declared.emit.Emit.{Emit}
use Rattle.op_base.specs.Columns.{Row}
use Rattle.op_base.specs.Standing.{RowStream}
use Rattle.op_base.specs.WholeLists.{HasEmitted}

-- the list of each port; there is none behind the last
abbrev pub list_of : List (List Row) → ℕ → List Row
list_of lists i = get_or lists i []

-- each port was fed a beginning of its list, or all of it and its end
abbrev pub AreBegun : (ℕ → List Row) → List (Feed Row) → Type 0
AreBegun lists feeds = (i : ℕ) → (rest : List (Item Row)) × (items_of i feeds ++ rest ≡ whole (lists i))

-- whatever it is fed of these lists on the way, in an order that it wants, suits it
abbrev pub SuitsLists : RowStream → (List (Feed Row) → Bool) → (ℕ → List Row) → Type 0
SuitsLists stream suits lists = (feeds : List (Feed Row)) → Fed stream feeds → AreBegun lists feeds → suits feeds ≡ true

-- what it gives for these lists was emitted, and nothing else
pub record HasRun (stream : RowStream) (lists : ℕ → List Row) (emit : Emit) : Type 0 where
  pub outs : List (Out Row Fault)
  pub gives : Gives stream lists outs
  pub emitted : HasEmitted emit outs
