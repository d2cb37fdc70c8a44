-- A group wants its one port until it has ended.
use Rattle.std.specs.Prelude.{List}
use mathlib.Core.Path.{refl}
use Rattle.streams.specs.Streams.{IsStream}
use Rattle.streams.proofs.Collectors.{one_port}
use Rattle.ds_schema.specs.declared.key.Key.{Key}
use Rattle.op_group.specs.declared.agg.Agg.{Agg}
use Rattle.op_group.specs.Groups.{sorted_stream, hashed_stream}

pub sorted_is : (keys : List Key) (aggs : List Agg) → IsStream (sorted_stream keys aggs)
sorted_is keys aggs = one_port (sorted_stream keys aggs) refl (λ feeds i. refl)

pub hashed_is : (keys : List Key) (aggs : List Agg) → IsStream (hashed_stream keys aggs)
hashed_is keys aggs = one_port (hashed_stream keys aggs) refl (λ feeds i. refl)
