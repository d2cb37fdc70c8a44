-- What a merge keeps of what it was fed: the row that waits on each port.
use Rattle.std.specs.Prelude.{◌≡◌, ℕ, ◌<◌, Bool, true, false, not, if◌then◌else◌, Option, Some, None, List, [], ◌∷◌, length, get_or, set}
use Rattle.std.specs.Ordering.{is_lt}
use Rattle.streams.specs.Streams.{Feed, Out, all_below}
use Rattle.streams.specs.Operators.{Waiting, Front, best_of, front_outs, after, merge_machine}
use Rattle.ds_schema.specs.declared.key.Key.{Key}
use Rattle.ds_schema.specs.Rows.{row_cmp}
use Rattle.op_base.specs.declared.fault.Fault.{Fault}
use Rattle.op_base.specs.Columns.{Row}
use Rattle.op_collect.specs.declared.merging.Lane.{Lane}
use Rattle.op_collect.specs.declared.merging.Lane.TheVariants as lane

-- a port asks where it hasn't ended and has no row waiting
abbrev pub asks : Lane → Bool
asks lane.Empty = true
asks (lane.Waiting r) = false
asks lane.Over = false

abbrev pub is_over : Lane → Bool
is_over lane.Empty = false
is_over (lane.Waiting r) = false
is_over lane.Over = true

abbrev pub rows_waiting : Lane → List Row
rows_waiting lane.Empty = []
rows_waiting (lane.Waiting r) = r ∷ []
rows_waiting lane.Over = []

-- the same of a port
abbrev pub asks_at : List Lane → ℕ → Bool
asks_at lanes i = asks (get_or lanes i lane.Over)

abbrev pub over_at : List Lane → ℕ → Bool
over_at lanes i = is_over (get_or lanes i lane.Over)

abbrev pub rows_at : List Lane → ℕ → List Row
rows_at lanes i = rows_waiting (get_or lanes i lane.Over)

-- the row that waits on a port, and on a port that may be named
abbrev pub row_in : Lane → Option Row
row_in lane.Empty = None
row_in (lane.Waiting r) = Some r
row_in lane.Over = None

abbrev pub row_at : List Lane → ℕ → Option Row
row_at lanes i = row_in (get_or lanes i lane.Over)

abbrev pub row_of : List Lane → Option ℕ → Option Row
row_of lanes None = None
row_of lanes (Some i) = row_at lanes i

-- a row is less than another, or is one where there is no other
abbrev pub is_before : List Key → Option Row → Option Row → Bool
is_before keys None other = false
is_before keys (Some r) None = true
is_before keys (Some r) (Some other) = is_lt (row_cmp keys r other)

-- the least row that waits, and its port
abbrev pub least_of : List Key → List Lane → Option (Front Row)
least_of keys lanes = best_of (row_cmp keys) (length lanes) (rows_at lanes)

abbrev pub all_ready : List Lane → Bool
all_ready lanes = all_below (length lanes) (λ i. not (asks_at lanes i))

-- what is sent as soon as no port asks, and what is left then
abbrev pub due : List Key → List Lane → List (Out Row Fault)
due keys lanes = if all_ready lanes then front_outs (least_of keys lanes) else []

abbrev pub without_least : List Lane → Option (Front Row) → List Lane
without_least lanes None = lanes
without_least lanes (Some b) = set lanes b.port lane.Empty

abbrev pub left_after : List Key → List Lane → List Lane
left_after keys lanes = if all_ready lanes then without_least lanes (least_of keys lanes) else lanes

-- the rows that wait after some feeds, by the stream of the merge
abbrev pub waiting : ℕ → List Key → List (Feed Row) → Waiting Row
waiting n keys feeds = after (merge_machine {F = Fault} n (row_cmp keys)) (merge_machine {F = Fault} n (row_cmp keys)).start feeds

-- each lane is as its port; where no port asks, all have ended
pub record MergeStands (ports : ℕ) (keys : List Key) (lanes : List Lane) (feeds : List (Feed Row)) : Type 0 where
  pub rows_are : (i : ℕ) → i < ports → (waiting ports keys feeds).rows i ≡ rows_at lanes i
  pub over_are : (i : ℕ) → i < ports → (waiting ports keys feeds).over i ≡ over_at lanes i
  pub settled : ((i : ℕ) → i < ports → asks_at lanes i ≡ false) → (i : ℕ) → i < ports → over_at lanes i ≡ true
