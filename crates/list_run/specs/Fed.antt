-- All rows of a list, fed to an operator with one port.
use Rattle.std.specs.Prelude.{◌≡◌, ℕ, List, [], ◌∷◌, map}
use Rattle.streams.specs.Streams.{Feed}
use Rattle.streams.specs.Operators.{one_wanted}
use Rattle.op_base.specs.declared.emit.Sent.{Sent}
use Rattle.op_base.specs.Columns.{Row}
use Rattle.op_base.specs.Standing.{RowStream, row_feed}

pub record IsOnePort (stream : RowStream) : Type 0 where
  pub one : stream.ports ≡ 1
  pub wants : (feeds : List (Feed Row)) (i : ℕ) → stream.wants feeds i ≡ one_wanted feeds i

abbrev pub row_feeds : List Row → List (Feed Row)
row_feeds rows = map (row_feed 0) rows

-- without their outputs
abbrev pub sent_rows : List Sent → List Row
sent_rows [] = []
sent_rows (s ∷ sent) = s.row ∷ sent_rows sent
