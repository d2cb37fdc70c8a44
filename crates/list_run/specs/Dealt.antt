-- Rows that are dealt to the lists of partitions.
use Rattle.std.specs.Prelude.{◌≡◌, ℕ, ◌<◌, ◌+◌, ◌%◌, List, [], ◌++◌, length, get_or, map}
use Rattle.std.specs.List.{range_with_len}
use Rattle.op_base.specs.Columns.{Row}
use Rattle.op_base.specs.Lists.{joined}
use Rattle.flow_graph.specs.Destinations.{lane, lanes_to}

-- each list grows by its lane
pub record Deals (goes : ℕ → Row → ℕ) (rows : List Row) (old new : List (List Row)) : Type 0 where
  pub count : length new ≡ length old
  pub each : (j : ℕ) → j < length old → get_or new j [] ≡ get_or old j [] ++ lane goes j 0 rows

-- in turn, from a first list on
abbrev pub turn_goes : ℕ → ℕ → ℕ → Row → ℕ
turn_goes first count t r = (first + t) % count

-- to each of some consumers its lanes, one after another
abbrev pub dealt : (ℕ → ℕ → Row → ℕ) → ℕ → List (List Row) → List (List Row)
dealt goes count sent = map (λ j. joined (lanes_to goes j 0 sent)) (range_with_len 0 count)

-- the same, list by list
pub record Dealt (goes : ℕ → ℕ → Row → ℕ) (sent : List (List Row)) (count : ℕ) (got : List (List Row)) : Type 0 where
  pub count_is : length got ≡ count
  pub each : (j : ℕ) → j < count → get_or got j [] ≡ joined (lanes_to goes j 0 sent)
