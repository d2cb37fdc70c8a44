-- What is kept of what was fed at each port.
use Rattle.std.specs.Prelude.{◌≡◌, ⊤, ℕ, zero, suc, Bool, true, false, ◌||◌, Option, Some, None, is_some, option_to_list, List, [], ◌∷◌, ◌++◌, map, length}
use Rattle.std.specs.List.{AllByRecursion}
use Rattle.std.specs.Ordering.{is_eq}
use Rattle.streams.specs.Streams.{Feed}
use Rattle.ds_value.specs.declared.value.Value.{Value}
use Rattle.ds_schema.specs.declared.key.Key.{Key}
use Rattle.ds_schema.specs.Rows.{cols, has, row_cmp, val, ways}
use Rattle.op_base.specs.Columns.{Row}
use Rattle.op_base.specs.Feeds.{behind}
use Rattle.op_base.specs.Meanings.{columns_of, ways_of}
use Rattle.op_base.specs.Standing.{RowStream}
use Rattle.op_runs.specs.KeyedStreams.{KeyRule, keyed_stream, port_ends, waiting}
use Rattle.op_match.specs.declared.side.Side.{Side}

-- the rows of a side that wait
abbrev pub side_rows : Side → List Row
side_rows side = side.run ++ option_to_list side.next

abbrev pub is_complete : Side → Bool
is_complete side = side.over || is_some side.next

-- a row of other values
abbrev pub IsOther : List ℕ → List Value → Option Row → Type 0
IsOther cs v next = (r : Row) → next ≡ Some r → has cs v r ≡ false

-- rows of one value, then a row of other values or none
abbrev pub IsRun : List ℕ → List Row → Option Row → Type 0
IsRun cs [] next = next ≡ None
IsRun cs (r ∷ run) next = AllByRecursion (λ s. val cs s ≡ val cs r) run × IsOther cs (val cs r) next

abbrev pub IsReady : Side → Type 0
IsReady side = IsRun (cols side.keys) side.run side.next

-- a row has the key value of a run, if there is one
abbrev pub is_same : List Key → List Row → Row → Bool
is_same keys [] row = true
is_same keys (r ∷ run) row = is_eq (row_cmp keys row r)

-- the first row has this key value
abbrev pub starts : List ℕ → List Value → List Row → Bool
starts cs v [] = false
starts cs v (r ∷ run) = has cs v r

-- key values are as many as the keys
abbrev pub fits_key : ℕ → Option (List Value) → Type 0
fits_key n None = ⊤
fits_key n (Some v) = n ≡ length v

-- nothing waits yet
pub record IsFresh (side : Side) : Type 0 where
  pub rows : side_rows side ≡ []
  pub over : side.over ≡ false
  pub ready : IsReady side

-- the first run was taken off if it had this key value
pub record IsCut (key : List Value) (old new : Side) : Type 0 where
  pub keys : new.keys ≡ old.keys
  pub over : new.over ≡ old.over
  pub rows : side_rows new ≡ behind (cols old.keys) key (side_rows old)
  pub ready : IsReady new

-- of all ports
abbrev pub keys_in : List Side → List (List Key)
keys_in sides = map (λ (s : Side). s.keys) sides

abbrev pub ways_in : List Side → List Bool
ways_in sides = ways_of (keys_in sides)

abbrev pub columns_in : List Side → List (List ℕ)
columns_in sides = columns_of (keys_in sides)

-- the stream of a rule by the keys of all ports
abbrev pub sides_stream : List Side → KeyRule → RowStream
sides_stream sides rule = keyed_stream (ways_in sides) (columns_in sides) rule

abbrev pub ends_in : List Side → List Bool
ends_in sides = map (λ (s : Side). s.over) sides

abbrev pub rows_waiting : List Side → List (List Row)
rows_waiting sides = map side_rows sides

abbrev pub runs_in : List Side → List (List Row)
runs_in sides = map (λ (s : Side). s.run) sides

-- of the first n sides the run was taken off if it had this key value; the others are unchanged
abbrev pub CutTo : List Value → ℕ → List Side → List Side → Type 0
CutTo key n [] [] = ⊤
CutTo key n [] (new ∷ news) = ⊥
CutTo key n (old ∷ olds) [] = ⊥
CutTo key zero (old ∷ olds) (new ∷ news) = (new ≡ old) × CutTo key 0 olds news
CutTo key (suc n) (old ∷ olds) (new ∷ news) = IsCut key old new × CutTo key n olds news

-- the keys of all ports have equal directions
abbrev pub HaveSameWays : List (List Key) → Type 0
HaveSameWays keys = AllByRecursion (λ (k : List Key). ways k ≡ ways_of keys) keys

pub record IsSound (sides : List Side) : Type 0 where
  pub same_ways : HaveSameWays (keys_in sides)
  pub ready : AllByRecursion IsReady sides

-- the sides have what isn't taken off yet
pub record SidesStand (sides : List Side) (feeds : List (Feed Row)) : Type 0 where
  pub sound : IsSound sides
  pub ends : ends_in sides ≡ port_ends (length (columns_in sides)) feeds
  pub waits : rows_waiting sides ≡ waiting (ways_in sides) (columns_in sides) feeds
