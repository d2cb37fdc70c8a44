-- Streams that send on output 0 alone, and streams of one port, as operators with a number.
use Rattle.std.proofs.Common.{◌≡◌, ℕ, ◌==◌, Bool, true, false, not, cond, refl, ap, ◌∙◌, List, [], ◌∷◌, map}
use Rattle.std.specs.Prelude.{Option, Some, None, nat_lt, ◌&&◌}
use Rattle.streams.specs.Streams.{Item, row, end, Out, sends, fails, rows_out, rows_of}
use Rattle.streams.specs.Operators.{end_outs}
use Rattle.streams.specs.Chains.{others, IsOnePort}
use Rattle.ds_schema.specs.declared.key.Key.{Key}
use Rattle.op_base.specs.declared.fault.Fault.{Fault}
use Rattle.op_base.specs.Columns.{Row}
use Rattle.op_base.specs.Keyed.{arranged}
use Rattle.op_base.specs.Standing.{RowStream}
use Rattle.op_order.specs.Ordered.{tsort_stream}
use Rattle.flow_plan.specs.Data.{plain, row_in, feed_by, feeds_by, out_at, numbered_at}
use Rattle.flow_plan.specs.Planned.{sorter}
use Rattle.flow_plan.proofs.Following.{ended_by}
use Rattle.plan_chains.specs.Combined.{IsOneOutput}

other_rows : (o : ℕ) (outs : List (Out Row Fault)) → rows_out (others (map (out_at o) outs)) ≡ map plain (rows_out (others outs))
other_rows o [] = refl
other_rows o (fails fault ∷ outs) = other_rows o outs
other_rows o (sends port r ∷ outs) = by (port == 0) (other_rows o outs)
  where
    by : (t : Bool) → rows_out (others (map (out_at o) outs)) ≡ map plain (rows_out (others outs)) → rows_out (cond t (others (map (out_at o) outs)) (sends port (plain r) ∷ others (map (out_at o) outs))) ≡ map plain (rows_out (cond t (others outs) (sends port r ∷ others outs)))
    by true e = e
    by false e = ap (λ rows. plain r ∷ rows) e

pub numbered_output : (o : ℕ) (s : RowStream) → IsOneOutput s → IsOneOutput (numbered_at o s)
numbered_output o s one feeds f = other_rows o (s.gives (feeds_by row_in feeds) (feed_by row_in f)) ∙ ap (map plain) (one (feeds_by row_in feeds) (feed_by row_in f))

pub numbered_port : (o : ℕ) (s : RowStream) → IsOnePort s → IsOnePort (numbered_at o s)
numbered_port o s port = record { one = port.one; until = λ feeds i. port.until (feeds_by row_in feeds) i ∙ ap (λ t. nat_lt i 1 && not t) (ended_by row_in 0 feeds) }

none_elsewhere : (rows : List Row) → rows_out (others (map {B = Out Row Fault} (sends 0) rows)) ≡ []
none_elsewhere [] = refl
none_elsewhere (r ∷ rows) = none_elsewhere rows

sorted_output : (keys : List Key) → IsOneOutput (tsort_stream keys)
sorted_output keys feeds f = by f.item
  where
    by : (item : Item Row) → rows_out (others (end_outs (map {B = Out Row Fault} (sends 0) (arranged keys (rows_of 0 feeds))) item)) ≡ []
    by (row r) = refl
    by end = none_elsewhere (arranged keys (rows_of 0 feeds))

pub sorter_output : (sort : Option (List Key)) → IsOneOutput (sorter sort)
sorter_output None = numbered_output 0 (tsort_stream []) (sorted_output [])
sorter_output (Some keys) = numbered_output 0 (tsort_stream keys) (sorted_output keys)
