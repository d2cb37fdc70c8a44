-- The collectors and funnels want a port that is there and hasn't ended, until all have.
use Rattle.std.specs.Prelude.{ℕ, ◌<◌, List}
use Rattle.streams.specs.Streams.{IsStream}
use Rattle.streams.specs.Operators.{any_stream, ordered_stream, round_robin_stream, merge_stream}
use Rattle.streams.proofs.Collectors.{any_is, ordered_collector, round_robin_collector}
use Rattle.streams.proofs.Machines.{merge_is}
use Rattle.ds_schema.specs.declared.key.Key.{Key}
use Rattle.ds_schema.specs.Rows.{row_cmp}
use Rattle.op_base.specs.declared.fault.Fault.{Fault}
use Rattle.op_base.specs.Columns.{Row}

pub ordered_is : (n : ℕ) → 0 < n → IsStream (ordered_stream {X = Row} {F = Fault} n)
ordered_is n some = (ordered_collector n some).stream

pub round_is : (n : ℕ) → 0 < n → IsStream (round_robin_stream {X = Row} {F = Fault} n)
round_is n some = (round_robin_collector n some).stream

pub sort_merge_is : (n : ℕ) (keys : List Key) → 0 < n → IsStream (merge_stream {X = Row} {F = Fault} n (row_cmp keys))
sort_merge_is n keys some = merge_is Fault n some (row_cmp keys)

pub gather_is : (n : ℕ) → 0 < n → IsStream (any_stream {X = Row} {F = Fault} n)
gather_is n some = any_is n some
