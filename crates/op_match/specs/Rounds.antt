-- How runs are taken off.
use Rattle.std.specs.Prelude.{◌≡◌, ℕ, zero, suc, ◌+◌, ◌<◌, Bool, true, false, cond, ◌⊎◌, Option, Some, None, List, [], ◌∷◌, ◌++◌, length}
use Rattle.std.specs.Ordering.{is_lt}
use Rattle.streams.specs.Streams.{Out}
use Rattle.ds_value.specs.declared.value.Value.{Value}
use Rattle.ds_schema.specs.Rows.{vals_cmp}
use Rattle.op_base.specs.declared.emit.Emit.{Emit}
use Rattle.op_base.specs.declared.fault.Fault.{Fault}
use Rattle.op_base.specs.declared.operator.Want.{Want}
use Rattle.op_base.specs.declared.operator.Want.TheVariants.{Port, Nothing}
use Rattle.op_base.specs.Columns.{Row}
use Rattle.op_base.specs.Emits.{Adds}
use Rattle.op_base.specs.Feeds.{emits, heads_in, left, rows_in, runs_done}
use Rattle.op_runs.specs.KeyedStreams.{KeyRule}
use Rattle.op_match.specs.declared.side.Side.{Side}
use Rattle.op_match.specs.Waiting.{columns_in, ends_in, keys_in, rows_waiting, ways_in, is_complete, IsSound}

-- key values that are below others, or there are no others
abbrev pub is_below : List Bool → List Value → Option (List Value) → Bool
is_below ds v None = true
is_below ds v (Some u) = is_lt (vals_cmp ds v u)

-- the least of some key values and of those that come, the first where they tie
abbrev pub least_head : List Bool → Option (List Value) → List (List Value) → Option (List Value)
least_head ds least [] = least
least_head ds least (v ∷ vs) = least_head ds (cond (is_below ds v least) (Some v) least) vs

abbrev pub row_count : List Side → ℕ
row_count sides = rows_in (columns_in sides) (rows_waiting sides)

-- the first run of a port isn't complete
abbrev pub MayAdd : List Side → ℕ → Type 0
MayAdd [] port = ⊥
MayAdd (s ∷ sides) zero = is_complete s ≡ false
MayAdd (s ∷ sides) (suc port) = MayAdd sides port

-- the least port from this one on whose first run isn't complete
abbrev pub wanted_from : ℕ → List Side → Want
wanted_from port [] = Nothing
wanted_from port (s ∷ sides) = cond (is_complete s) (wanted_from (port + 1) sides) (Port port)

-- what the waiting rows give by a rule, and what they leave
abbrev pub due : KeyRule → List Side → List (Out Row Fault)
due rule sides = emits (ways_in sides) (columns_in sides) rule (ends_in sides) (rows_waiting sides)

abbrev pub remaining : List Side → List (List Row)
remaining sides = left (ways_in sides) (columns_in sides) (ends_in sides) (rows_waiting sides)

-- a first run isn't complete, or no row waits
abbrev pub IsStill : List Side → Type 0
IsStill sides = (runs_done (columns_in sides) (ends_in sides) (rows_waiting sides) ≡ false) ⊎ (heads_in (columns_in sides) (rows_waiting sides) ≡ [])

-- the runs of a key value were taken off: what a rule gives of them comes first of what was due
pub record IsRound (old new : List Side) (runs : List (List Row)) : Type 0 where
  pub sound : IsSound new
  pub keys : keys_in new ≡ keys_in old
  pub ends : ends_in new ≡ ends_in old
  pub fewer : row_count new < row_count old
  pub long : length runs ≡ length old
  pub rows : remaining new ≡ remaining old
  pub key : List Value
  pub gives : (rule : KeyRule) → due rule old ≡ rule key runs ++ due rule new

-- what was taken off, if anything can be
abbrev pub Took : List Side → List Side → Option (List (List Row)) → Type 0
Took old new None = IsStill old × (new ≡ old)
Took old new (Some runs) = IsRound old new runs

-- some rounds: with what is still due, all that was due is emitted
pub record TakesOff (rule : KeyRule) (old new : List Side) (before now : Emit) : Type 0 where
  pub sound : IsSound new
  pub keys : keys_in new ≡ keys_in old
  pub ends : ends_in new ≡ ends_in old
  pub rows : remaining new ≡ remaining old
  pub emits : (later : Emit) → Adds now later (due rule new) → Adds before later (due rule old)
