-- What the collectors that pass each row at once keep of what they were fed.
use Rattle.std.specs.Prelude.{◌≡◌, ℕ, ◌<◌, ◌≤◌, nat_lt, Bool, true, false, Option, Some, None, List, length, get_or}
use Rattle.streams.specs.Streams.{Feed, ended}
use Rattle.streams.specs.Operators.{turn_after}
use Rattle.op_base.specs.Columns.{Row}

-- the first number that fails a test, of those from one on and below another
abbrev pub IsFirst : (ℕ → Bool) → ℕ → ℕ → Option ℕ → Type 0
IsFirst p from to None = (i : ℕ) → from ≤ i → i < to → p i ≡ true
IsFirst p from to (Some first) = (from ≤ first) × (first < to) × (p first ≡ false) × ((i : ℕ) → from ≤ i → i < first → p i ≡ true)

-- the ports before its turn have ended, and no others
pub record OrderedStands (turn : ℕ) (feeds : List (Feed Row)) : Type 0 where
  pub over_are : (i : ℕ) → ended i feeds ≡ nat_lt i turn

-- which ports have ended, and the port after the one that was fed last
pub record RoundStands (over : List Bool) (turn : ℕ) (feeds : List (Feed Row)) : Type 0 where
  pub over_are : (i : ℕ) → i < length over → get_or over i false ≡ ended i feeds
  pub turn_is : turn ≡ turn_after 0 feeds

-- which ports have ended
pub record GatherStands (over : List Bool) (feeds : List (Feed Row)) : Type 0 where
  pub over_are : (i : ℕ) → i < length over → get_or over i false ≡ ended i feeds
