-- Sorting and the removal of duplicates want their one port until it has ended.
use Rattle.std.specs.Prelude.{Bool, List}
use mathlib.Core.Path.{refl}
use Rattle.streams.specs.Streams.{IsStream}
use Rattle.streams.proofs.Collectors.{one_port}
use Rattle.ds_schema.specs.declared.key.Key.{Key}
use Rattle.op_order.specs.Ordered.{tsort_stream, remdup_stream}

pub tsort_is : (keys : List Key) → IsStream (tsort_stream keys)
tsort_is keys = one_port (tsort_stream keys) refl (λ feeds i. refl)

pub remdup_is : (keys : List Key) (last : Bool) → IsStream (remdup_stream keys last)
remdup_is keys last = one_port (remdup_stream keys last) refl (λ feeds i. refl)
