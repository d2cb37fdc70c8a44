-- What an operator in code keeps to: it stands for the items that it was fed, and does what its stream says.
use Rattle.std.specs.Prelude.{◌≡◌, ℕ, ◌==◌, nat_lt, Bool, true, false, not, ◌&&◌, List, [], ◌∷◌, ◌++◌}
use Rattle.streams.specs.Streams.{row, end, Feed, Stream, ended, all_ended}
use Rattle.op_base.specs.declared.fault.Fault.{Fault}
use Rattle.op_base.specs.declared.operator.Want.{Want}
use Rattle.op_base.specs.declared.operator.Want.TheVariants.{Port, Any, Nothing}
use Rattle.op_base.specs.declared.emit.Emit.{Emit}
use Rattle.op_base.specs.Columns.{Row}
use Rattle.op_base.specs.Emits.{Adds}

-- an operator over rows
abbrev pub RowStream : Type 0
RowStream = Stream Row Fault

abbrev pub row_feed : ℕ → Row → Feed Row
row_feed port r = record { port = port; item = row r }

abbrev pub end_feed : ℕ → Feed Row
end_feed port = record { port = port; item = end }

-- the answer says which ports are wanted after these feeds; that none is exactly where all have ended
abbrev pub Answers : Want → RowStream → List (Feed Row) → Type 0
Answers (Port wanted) stream feeds = ((i : ℕ) → stream.wants feeds i ≡ (wanted == i)) × (all_ended stream feeds ≡ false)
Answers Any stream feeds = ((i : ℕ) → stream.wants feeds i ≡ (nat_lt i stream.ports && not (ended i feeds))) × (all_ended stream feeds ≡ false)
Answers Nothing stream feeds = all_ended stream feeds ≡ true

-- some feeds for which it stands, after which this one is wanted and suits it
pub record MayFeed (stream : RowStream) (suits : List (Feed Row) → Bool) (Stands : List (Feed Row) → Type 0) (feed : Feed Row) : Type 0 where
  pub feeds : List (Feed Row)
  pub stands : Stands feeds
  pub wanted : stream.wants feeds feed.port ≡ true
  pub suited : suits (feeds ++ feed ∷ []) ≡ true

-- what stood for some feeds stands for them and one more
abbrev pub Steps : (List (Feed Row) → Type 0) → (List (Feed Row) → Type 0) → Feed Row → Type 0
Steps Old New feed = (feeds : List (Feed Row)) → Old feeds → New (feeds ++ feed ∷ [])

-- exactly what the stream gives for one more feed is added, whichever feeds it stood for
abbrev pub Emits : RowStream → (List (Feed Row) → Type 0) → Feed Row → Emit → Emit → Type 0
Emits stream Stands feed old new = (feeds : List (Feed Row)) → Stands feeds → Adds old new (stream.gives feeds feed)
