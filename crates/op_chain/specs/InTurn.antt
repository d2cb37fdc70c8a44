-- Two operators in turn as one, in code: what is fed to the second, and what it means that both stand for what was fed.
use Rattle.std.specs.Prelude.{◌≡◌, Bool, true, false, ◌&&◌, ◌==◌, if◌then◌else◌, List, [], ◌∷◌, ◌++◌}
use Rattle.streams.specs.Streams.{Feed, Stream, FedAfter, ended, emits_after, IsStream}
use Rattle.streams.specs.Chains.{then_stream, passed_on, IsOnePort}
use Rattle.op_base.specs.declared.emit.Sent.{Sent}
use Rattle.op_base.specs.declared.emit.Emit.{Emit}
use Rattle.op_base.specs.Columns.{Row}
use Rattle.op_base.specs.Emits.{Adds}
use Rattle.op_base.specs.Standing.{RowStream, end_feed}
use Rattle.op_base.specs.WholeLists.{row_feeds}

-- the rows that were sent on output 0, and what was sent elsewhere
abbrev pub handed_rows : List Sent → List Row
handed_rows [] = []
handed_rows (s ∷ sent) = if s.port == 0 then s.row ∷ handed_rows sent else handed_rows sent

abbrev pub elsewhere : List Sent → List Sent
elsewhere [] = []
elsewhere (s ∷ sent) = if s.port == 0 then elsewhere sent else s ∷ elsewhere sent

-- rows, and the end behind them where nothing more comes
abbrev pub handed_feeds : List Row → Bool → List (Feed Row)
handed_feeds rows over = row_feeds rows ++ (if over then end_feed 0 ∷ [] else [])

-- each of some further feeds suits when it comes
abbrev pub suits_each : (List (Feed Row) → Bool) → List (Feed Row) → List (Feed Row) → Bool
suits_each suits done [] = true
suits_each suits done (f ∷ feeds) = suits (done ++ f ∷ []) && suits_each suits (done ++ f ∷ []) feeds

-- some feeds for which it stands, after which these are wanted and suit it
pub record MayHandOn (stream : RowStream) (suits : List (Feed Row) → Bool) (Stands : List (Feed Row) → Type 0) (feeds : List (Feed Row)) : Type 0 where
  pub before : List (Feed Row)
  pub stands : Stands before
  pub one_port : IsOnePort stream
  pub runs : ended 0 before ≡ false
  pub suited : suits_each suits before feeds ≡ true

-- what stood for some feeds stands for them and these
abbrev pub StepsBy : (List (Feed Row) → Type 0) → (List (Feed Row) → Type 0) → List (Feed Row) → Type 0
StepsBy Old New feeds = (before : List (Feed Row)) → Old before → New (before ++ feeds)

-- exactly what the stream gives for these feeds is added, whichever feeds it stood for
abbrev pub EmitsAll : RowStream → (List (Feed Row) → Type 0) → List (Feed Row) → Emit → Emit → Type 0
EmitsAll stream Stands feeds old new = (before : List (Feed Row)) → Stands before → Adds old new (emits_after stream before feeds)

-- the feeds suit the first, and what it hands on suits the second
abbrev pub suits_both : RowStream → (List (Feed Row) → Bool) → (List (Feed Row) → Bool) → List (Feed Row) → Bool
suits_both a suits_a suits_b feeds = suits_a feeds && suits_each suits_b [] (passed_on a feeds)

-- the first stands for what was fed, the second, which has one port, for what was handed on of it
pub record StandBoth (a b : RowStream) (Stands_a Stands_b : List (Feed Row) → Type 0) (feeds : List (Feed Row)) : Type 0 where
  pub first : Stands_a feeds
  pub second : Stands_b (passed_on a feeds)
  pub one_port : IsOnePort b

fed_first : {X F : Type 0} (a b : Stream X F) (done feeds : List (Feed X)) → FedAfter (then_stream a b) done feeds → FedAfter a done feeds
fed_first a b done [] h = tt
fed_first a b done (f ∷ feeds) h = (h.0, fed_first a b (done ++ f ∷ []) feeds h.1)

pub then_is_stream : {X F : Type 0} (a b : Stream X F) → IsStream a → IsStream (then_stream a b)
then_is_stream a b is = record { some = is.some; opens = is.opens; hungry = λ feeds fed. is.hungry feeds (fed_first a b [] feeds fed) }
