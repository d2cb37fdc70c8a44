-- An operator on its way through whole lists, one for each of its ports.
use Rattle.std.specs.Prelude.{◌≡◌, ℕ, ◌<◌, Bool, true, cond, Option, Some, None, List, [], ◌∷◌, ◌++◌, length, get_or}
use Rattle.streams.specs.Streams.{Item, Feed, items_of, all_ended, emits, Fed, whole}
use Rattle.op_base.specs.declared.emit.Emit.{Emit}
use Rattle.op_base.specs.Columns.{Row}
use Rattle.op_base.specs.Emits.{Adds}
use Rattle.op_base.specs.Standing.{RowStream, Steps, Emits}

-- what is left of a list: its rows and its end, or nothing
abbrev pub left_of : Bool → List Row → List (Item Row)
left_of over rows = cond over [] (whole rows)

abbrev pub feed_of : ℕ → Item Row → Feed Row
feed_of port item = record { port = port; item = item }

-- what was fed on each port and what is left make its list with its end
abbrev pub AreLeft : (ℕ → List Row) → List (List (Item Row)) → List (Feed Row) → Type 0
AreLeft lists left feeds = (i : ℕ) → i < length left → items_of i feeds ++ get_or left i [] ≡ whole (lists i)

-- a port that is wanted, or none where all have ended
abbrev pub Picks : RowStream → List (Feed Row) → Option ℕ → Type 0
Picks stream feeds None = all_ended stream feeds ≡ true
Picks stream feeds (Some port) = stream.wants feeds port ≡ true

-- the same after whatever feeds it stands for, if they leave this of some lists
abbrev pub PicksNext : RowStream → (List (Feed Row) → Type 0) → List (List (Item Row)) → Option ℕ → Type 0
PicksNext stream Stands left port = (lists : ℕ → List Row) (feeds : List (Feed Row)) → stream.ports ≡ length left → Stands feeds → AreLeft lists left feeds → Picks stream feeds port

-- the first of these items was fed on the port, and is no longer left
pub record FeedsFirst (stream : RowStream) (Old New : List (Feed Row) → Type 0) (port : ℕ) (old new : List (Item Row)) (before emit : Emit) : Type 0 where
  pub item : Item Row
  pub taken : old ≡ item ∷ new
  pub stands : Steps Old New (feed_of port item)
  pub emits : Emits stream Old (feed_of port item) before emit

-- it was fed this much of these lists, in an order that it wants, and emitted what its stream gives
pub record IsFeeding (stream : RowStream) (Stands : List (Feed Row) → Type 0) (lists : ℕ → List Row) (left : List (List (Item Row))) (before emit : Emit) : Type 0 where
  pub feeds : List (Feed Row)
  pub stands : Stands feeds
  pub fed : Fed stream feeds
  pub left_is : AreLeft lists left feeds
  pub emitted : Adds before emit (emits stream feeds)

-- it was fed these lists to their ends, in an order that it wants, and emitted what its stream gives
pub record HasFed (stream : RowStream) (Stands : List (Feed Row) → Type 0) (lists : ℕ → List Row) (before emit : Emit) : Type 0 where
  pub feeds : List (Feed Row)
  pub stands : Stands feeds
  pub fed : Fed stream feeds
  pub taken : (i : ℕ) → i < stream.ports → items_of i feeds ≡ whole (lists i)
  pub ended : all_ended stream feeds ≡ true
  pub emitted : Adds before emit (emits stream feeds)
