-- What is said of an operator between imports and exports, by its type.
use Rattle.streams.specs.Streams.{IsStream}
use Rattle.op_base.specs.Standing.{RowStream}
use Rattle.op_order.specs.declared.sorter.Tsort.{Tsort}
use Rattle.op_order.specs.declared.deduplicator.Remdup.{Remdup}
use Rattle.op_group.specs.declared.sorted.GroupSorted.{GroupSorted}
use Rattle.op_group.specs.declared.hashed.GroupHashed.{GroupHashed}
use Rattle.op_join.specs.declared.joiner.Join.{Join}
use Rattle.op_lookup.specs.declared.looker.Lookup.{Lookup}
use Rattle.op_match.specs.declared.merge.Merger.{Merger}
use Rattle.op_match.specs.declared.captures.Capture.{Capture}
use Rattle.op_any.specs.declared.row_operator.RowOperator.{RowOperator}
use Rattle.op_any.specs.declared.any_collector.AnyCollector.{AnyCollector}
use Rattle.op_any.specs.declared.any_operator.AnyOperator.{AnyOperator}
use Rattle.op_any.specs.declared.any_operator.AnyOperator.TheVariants as any

abbrev pub by_type {ℓ} : {A : Type ℓ} → (RowOperator → A) → (Tsort → A) → (Remdup → A) → (GroupSorted → A) → (GroupHashed → A) → (Join → A) → (Lookup → A) → (Merger → A) → (Capture → A) → (AnyCollector → A) → AnyOperator → A
by_type by_row tsort remdup sorted hashed join lookup merger capture funnel (any.ByRow op) = by_row op
by_type by_row tsort remdup sorted hashed join lookup merger capture funnel (any.Tsort op) = tsort op
by_type by_row tsort remdup sorted hashed join lookup merger capture funnel (any.Remdup op) = remdup op
by_type by_row tsort remdup sorted hashed join lookup merger capture funnel (any.GroupSorted op) = sorted op
by_type by_row tsort remdup sorted hashed join lookup merger capture funnel (any.GroupHashed op) = hashed op
by_type by_row tsort remdup sorted hashed join lookup merger capture funnel (any.Join op) = join op
by_type by_row tsort remdup sorted hashed join lookup merger capture funnel (any.Lookup op) = lookup op
by_type by_row tsort remdup sorted hashed join lookup merger capture funnel (any.Merger op) = merger op
by_type by_row tsort remdup sorted hashed join lookup merger capture funnel (any.Capture op) = capture op
by_type by_row tsort remdup sorted hashed join lookup merger capture funnel (any.Funnel op) = funnel op

-- each is a stream
abbrev pub are_streams : (by_row : RowOperator → RowStream) (tsort : Tsort → RowStream) (remdup : Remdup → RowStream) (sorted : GroupSorted → RowStream) (hashed : GroupHashed → RowStream) (join : Join → RowStream) (lookup : Lookup → RowStream) (merger : Merger → RowStream) (capture : Capture → RowStream) (funnel : AnyCollector → RowStream) →
    ((op : RowOperator) → IsStream (by_row op)) → ((op : Tsort) → IsStream (tsort op)) → ((op : Remdup) → IsStream (remdup op)) → ((op : GroupSorted) → IsStream (sorted op)) → ((op : GroupHashed) → IsStream (hashed op)) → ((op : Join) → IsStream (join op)) → ((op : Lookup) → IsStream (lookup op)) → ((op : Merger) → IsStream (merger op)) → ((op : Capture) → IsStream (capture op)) → ((op : AnyCollector) → IsStream (funnel op)) →
    (op : AnyOperator) → IsStream (by_type by_row tsort remdup sorted hashed join lookup merger capture funnel op)
are_streams a b c d e f g h i j by_row tsort remdup sorted hashed join lookup merger capture funnel (any.ByRow op) = by_row op
are_streams a b c d e f g h i j by_row tsort remdup sorted hashed join lookup merger capture funnel (any.Tsort op) = tsort op
are_streams a b c d e f g h i j by_row tsort remdup sorted hashed join lookup merger capture funnel (any.Remdup op) = remdup op
are_streams a b c d e f g h i j by_row tsort remdup sorted hashed join lookup merger capture funnel (any.GroupSorted op) = sorted op
are_streams a b c d e f g h i j by_row tsort remdup sorted hashed join lookup merger capture funnel (any.GroupHashed op) = hashed op
are_streams a b c d e f g h i j by_row tsort remdup sorted hashed join lookup merger capture funnel (any.Join op) = join op
are_streams a b c d e f g h i j by_row tsort remdup sorted hashed join lookup merger capture funnel (any.Lookup op) = lookup op
are_streams a b c d e f g h i j by_row tsort remdup sorted hashed join lookup merger capture funnel (any.Merger op) = merger op
are_streams a b c d e f g h i j by_row tsort remdup sorted hashed join lookup merger capture funnel (any.Capture op) = capture op
are_streams a b c d e f g h i j by_row tsort remdup sorted hashed join lookup merger capture funnel (any.Funnel op) = funnel op
