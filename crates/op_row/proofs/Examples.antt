-- Operators by rows as they are fed, computed; wrong results are refused.
use Rattle.std.proofs.Common.{◌≡◌, ◌≢◌, ℕ, List, [], ◌∷◌, refl, pos, map}
use Rattle.streams.specs.Streams.{sends, emits}
use Rattle.ds_value.specs.declared.value.Value.TheVariants.{Int}
use Rattle.op_base.specs.Columns.{Row}
use Rattle.op_base.specs.WholeLists.{row_feeds, list_feeds}
use Rattle.op_row.specs.ByRow.{copier_stream, modify_stream}

abbrev row : ℕ → ℕ → ℕ → Row
row a b c = Int (pos a) ∷ (Int (pos b) ∷ (Int (pos c) ∷ []))

abbrev rows : List Row
rows = row 1 2 3 ∷ (row 4 5 6 ∷ [])

-- at once, and nothing at the end
copied : emits (copier_stream 2) (row_feeds rows) ≡ sends 0 (row 1 2 3) ∷ (sends 1 (row 1 2 3) ∷ (sends 0 (row 4 5 6) ∷ (sends 1 (row 4 5 6) ∷ [])))
copied = refl

copied_whole : emits (copier_stream 2) (list_feeds rows) ≡ emits (copier_stream 2) (row_feeds rows)
copied_whole = refl

not_once : emits (copier_stream 2) (list_feeds rows) ≢ map (sends 0) rows
not_once e = cc

kept : emits (modify_stream (2 ∷ (0 ∷ []))) (list_feeds rows) ≡ sends 0 (Int (pos 3) ∷ (Int (pos 1) ∷ [])) ∷ (sends 0 (Int (pos 6) ∷ (Int (pos 4) ∷ [])) ∷ [])
kept = refl

not_by_the_input : emits (modify_stream (2 ∷ (0 ∷ []))) (list_feeds (row 1 2 3 ∷ [])) ≢ sends 0 (Int (pos 1) ∷ (Int (pos 3) ∷ [])) ∷ []
not_by_the_input e = cc
