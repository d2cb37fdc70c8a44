use Rattle.op_any.proofs.any_collector.AnyCollectorOperator.feed.Goals as goal

pub returns-in-SortMerge-clause-emits : goal.returns-in-SortMerge-clause-emits
returns-in-SortMerge-clause-emits c = rw c.in-SortMerge.is c.feed-in-SortMerge.ensures.emits
