-- What changecapture gives for a key value, its stream, and the rows that suit it.
use Rattle.std.specs.Prelude.{ℕ, Bool, ◌&&◌, nat_lt, List, [], ◌∷◌, ◌++◌, map, length}
use Rattle.std.specs.List.{list_all}
use Rattle.streams.specs.Streams.{Feed, sends, rows_of}
use Rattle.ds_schema.specs.declared.key.Key.{Key}
use Rattle.ds_schema.specs.Rows.{cols, ways}
use Rattle.op_base.specs.Columns.{Row, all_columns, is_short}
use Rattle.op_base.specs.Meanings.{Capture, change, coded, input}
use Rattle.op_base.specs.Standing.{RowStream}
use Rattle.op_runs.specs.KeyedStreams.{KeyRule, keyed_stream}

-- changecapture of rows of so many values
abbrev pub capturing : List Key → List ℕ → Bool → ℕ → Capture
capturing keys values keep width = record { keys = keys; columns = all_columns width; values = values; keeps_copy = keep }

-- the i-th row before with the i-th row after, then what is left over; all values that a row has stand before its code
abbrev pub captured : (ℕ → Capture) → List Row → List Row → List Row
captured by [] afters = map (λ r. coded (by (length r)) 1 r) afters
captured by (b ∷ befores) [] = map (λ r. coded (by (length r)) 2 r) (b ∷ befores)
captured by (b ∷ befores) (a ∷ afters) = change (by (length a)) b a ++ captured by befores afters

-- all goes to output 0
abbrev pub capture_outs : List Key → List ℕ → Bool → KeyRule
capture_outs keys values keep v inputs = map (sends 0) (captured (capturing keys values keep) (input 0 inputs) (input 1 inputs))

-- input 0 is before, input 1 after
abbrev pub capture_stream : List Key → List ℕ → Bool → RowStream
capture_stream keys values keep = keyed_stream (ways keys) (cols keys ∷ (cols keys ∷ [])) (capture_outs keys values keep)

-- a row that can be fed has each column that is named, and no text is too long
abbrev pub has_columns : List ℕ → Row → Bool
has_columns cs r = list_all (λ c. nat_lt c (length r)) cs

abbrev pub can_change : List Key → List ℕ → Row → Bool
can_change keys values r = has_columns (cols keys) r && (has_columns values r && list_all is_short r)

abbrev pub capture_suits : List Key → List ℕ → List (Feed Row) → Bool
capture_suits keys values feeds = list_all (can_change keys values) (rows_of 0 feeds) && list_all (can_change keys values) (rows_of 1 feeds)
