-- What an operator of one input gives for a whole list.
use Rattle.std.specs.Prelude.{◌≡◌, ⊤, Bool, true, None, List, [], ◌∷◌, ◌++◌, map, length}
use Rattle.streams.specs.Streams.{Feed, Out, faults_out}
use Rattle.op_base.specs.declared.fault.Fault.{Fault}
use Rattle.op_base.specs.declared.emit.Emit.{Emit}
use Rattle.op_base.specs.Columns.{Row}
use Rattle.op_base.specs.Emits.{rows_sent, counted, least_of}
use Rattle.op_base.specs.Standing.{row_feed, end_feed}

abbrev pub row_feeds : List Row → List (Feed Row)
row_feeds rows = map (row_feed 0) rows

-- the rows, and the end
abbrev pub list_feeds : List Row → List (Feed Row)
list_feeds rows = row_feeds rows ++ end_feed 0 ∷ []

-- each feed suits when it comes
abbrev pub SuitsEach : (List (Feed Row) → Bool) → List (Feed Row) → List (Feed Row) → Type 0
SuitsEach suits done [] = ⊤
SuitsEach suits done (f ∷ feeds) = (suits (done ++ f ∷ []) ≡ true) × SuitsEach suits (done ++ f ∷ []) feeds

-- these were emitted, and nothing else
pub record HasEmitted (emit : Emit) (outs : List (Out Row Fault)) : Type 0 where
  pub sent : emit.sent ≡ rows_sent outs
  pub faults : emit.faults ≡ counted 0 (length (faults_out outs))
  pub least : emit.least ≡ least_of None (faults_out outs)
