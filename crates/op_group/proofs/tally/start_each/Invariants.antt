use Rattle.std.proofs.Common.{◌≡◌, [], map, take}
use Rattle.std.specs.List.{AllByRecursion}
use Rattle.op_group.specs.Kept.{agg_of, RunningStands}
use Rattle.op_group.proofs.tally.start_each.Given as goal

abbrev pub invariant-loop-agg : goal.invariant-loop-agg
invariant-loop-agg l = record { aggs : map agg_of l.running.items ≡ take l.agg-index l.aggs; stands : AllByRecursion (RunningStands []) l.running.items }
