-- Operators by keys want one of their ports until all have ended.
use Rattle.std.proofs.Common.{arith}
use Rattle.std.specs.Prelude.{ℕ, ◌<◌, List, [], ◌∷◌, length}
use Rattle.streams.specs.Streams.{IsStream}
use Rattle.op_runs.specs.KeyedStreams.{KeyRule}
use Rattle.op_runs.proofs.Settled.{keyed_is}
use Rattle.op_match.specs.declared.side.Side.{Side}
use Rattle.op_match.specs.Waiting.{columns_in, sides_stream, ways_in}

some_columns : (sides : List Side) → 0 < length sides → 0 < length (columns_in sides)
some_columns [] h = h
some_columns (s ∷ sides) h = omega arith

pub sides_is : (sides : List Side) (rule : KeyRule) → 0 < length sides → IsStream (sides_stream sides rule)
sides_is sides rule some = keyed_is (ways_in sides) (columns_in sides) rule (some_columns sides some)
