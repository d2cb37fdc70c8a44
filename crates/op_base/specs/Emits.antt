-- What a call adds to what was emitted: rows in their order, the number of faults, and the least fault.
use Rattle.std.specs.Prelude.{◌≡◌, ℕ, ◌+◌, ◌-◌, ◌^◌, min, Option, Some, None, List, [], ◌∷◌, ◌++◌, length, if◌then◌else◌}
use Rattle.std.specs.Ordering.{is_lt}
use Rattle.streams.specs.Streams.{Out, sends, fails, faults_out}
use Rattle.op_base.specs.declared.fault.Fault.{Fault}
use Rattle.op_base.specs.declared.emit.Sent.{Sent}
use Rattle.op_base.specs.declared.emit.Emit.{Emit}
use Rattle.op_base.specs.Columns.{Row}
use Rattle.op_base.specs.Faults.{fault_cmp}

-- the rows, each with its output
abbrev pub rows_sent : List (Out Row Fault) → List Sent
rows_sent [] = []
rows_sent (sends port row ∷ outs) = record { port = port; row = row } ∷ rows_sent outs
rows_sent (fails fault ∷ outs) = rows_sent outs

-- as many faults more, as far as they are counted
abbrev pub counted : ℕ → ℕ → ℕ
counted before more = min (before + more) (2 ^ 63 - 1)

abbrev pub lesser : Option Fault → Fault → Fault
lesser None fault = fault
lesser (Some least) fault = if is_lt (fault_cmp fault least) then fault else least

-- the least of the least so far and of these
abbrev pub least_of : Option Fault → List Fault → Option Fault
least_of least [] = least
least_of least (fault ∷ faults) = least_of (Some (lesser least fault)) faults

pub record Adds (old new : Emit) (outs : List (Out Row Fault)) : Type 0 where
  pub sent : new.sent ≡ old.sent ++ rows_sent outs
  pub faults : new.faults ≡ counted old.faults (length (faults_out outs))
  pub least : new.least ≡ least_of old.least (faults_out outs)

-- nothing was emitted yet
pub record IsFresh (emit : Emit) : Type 0 where
  pub sent : emit.sent ≡ []
  pub faults : emit.faults ≡ 0
  pub least : emit.least ≡ None
