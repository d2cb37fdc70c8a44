-- What is said of a collector, by its type.
use Rattle.streams.specs.Streams.{IsStream}
use Rattle.op_base.specs.Standing.{RowStream}
use Rattle.op_collect.specs.declared.any_order.Gather.{Gather}
use Rattle.op_collect.specs.declared.in_order.Ordered.{Ordered}
use Rattle.op_collect.specs.declared.in_turn.Round.{Round}
use Rattle.op_collect.specs.declared.merging.SortMerge.{SortMerge}
use Rattle.op_any.specs.declared.any_collector.AnyCollector.{AnyCollector}
use Rattle.op_any.specs.declared.any_collector.AnyCollector.TheVariants as any

abbrev pub by_type {ℓ} : {A : Type ℓ} → (Gather → A) → (Ordered → A) → (Round → A) → (SortMerge → A) → AnyCollector → A
by_type gather ordered round merge (any.Gather op) = gather op
by_type gather ordered round merge (any.Ordered op) = ordered op
by_type gather ordered round merge (any.Round op) = round op
by_type gather ordered round merge (any.SortMerge op) = merge op

-- each is a stream
abbrev pub are_streams : (gather : Gather → RowStream) (ordered : Ordered → RowStream) (round : Round → RowStream) (merge : SortMerge → RowStream) →
    ((op : Gather) → IsStream (gather op)) → ((op : Ordered) → IsStream (ordered op)) → ((op : Round) → IsStream (round op)) → ((op : SortMerge) → IsStream (merge op)) →
    (op : AnyCollector) → IsStream (by_type gather ordered round merge op)
are_streams a b c d gather ordered round merge (any.Gather op) = gather op
are_streams a b c d gather ordered round merge (any.Ordered op) = ordered op
are_streams a b c d gather ordered round merge (any.Round op) = round op
are_streams a b c d gather ordered round merge (any.SortMerge op) = merge op
