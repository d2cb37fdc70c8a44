-- The numbers of rows, as far as rows are counted.
use Rattle.std.specs.Prelude.{◌≡◌, ◌-◌, ◌^◌, min, ℕ, List, length, map}
use Rattle.op_base.specs.Columns.{Row}
use Rattle.flow_graph.specs.Charts.{Chart, all_links}

-- by link, of these rows
abbrev pub AreCounts : Chart → (ℕ → List Row) → List ℕ → Type 0
AreCounts c whole counts = counts ≡ map (λ l. min (length (whole l)) (2 ^ 63 - 1)) (all_links c)
