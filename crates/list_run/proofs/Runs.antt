-- What tsort and remdup give of all rows of a partition.
use Rattle.std.proofs.Common.{◌≡◌, ℕ, Bool, refl, ap, ◌∙◌, List, [], ◌∷◌, map}
use Rattle.streams.specs.Streams.{Out, sends, Gives, rows_out}
use Rattle.ds_schema.specs.declared.key.Key.{Key}
use Rattle.ds_schema.specs.Rows.{cols, ways}
use Rattle.op_base.specs.declared.fault.Fault.{Fault}
use Rattle.op_base.specs.Columns.{Row}
use Rattle.op_base.specs.Feeds.{by_runs}
use Rattle.op_base.specs.Keyed.{arranged}
use Rattle.op_base.specs.Meanings.{one_row, input}
use Rattle.op_order.specs.Ordered.{tsort_stream, remdup_stream}
use Rattle.op_order.proofs.Means.{tsort-arranges}
use Rattle.op_order.proofs.Runs.{remdup-runs}

rows-sent : (rows : List Row) → rows_out {F = Fault} (map (sends 0) rows) ≡ rows
rows-sent [] = refl
rows-sent (r ∷ rows) = ap (λ t. r ∷ t) (rows-sent rows)

pub tsort_gives : (keys : List Key) (rows : List Row) (outs : List (Out Row Fault)) → Gives (tsort_stream keys) (λ i. rows) outs → rows_out outs ≡ arranged keys rows
tsort_gives keys rows outs g = ap rows_out (tsort-arranges keys (λ i. rows) outs g) ∙ rows-sent (arranged keys rows)

pub remdup_gives : (keys : List Key) (last : Bool) (rows : List Row) (outs : List (Out Row Fault)) → Gives (remdup_stream keys last) (λ i. rows) outs → rows_out outs ≡ by_runs (ways keys) (cols keys ∷ []) (λ v same. one_row last (input 0 same)) (rows ∷ [])
remdup_gives keys last rows outs g = ap rows_out (remdup-runs keys last (λ i. rows) outs g) ∙ rows-sent (by_runs (ways keys) (cols keys ∷ []) (λ v same. one_row last (input 0 same)) (rows ∷ []))
