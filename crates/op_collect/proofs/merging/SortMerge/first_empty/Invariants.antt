use Rattle.std.proofs.Common.{◌≡◌, ◌≤◌, ◌<◌, ℕ, true, not}
use Rattle.op_collect.specs.Merging.{asks_at}
use Rattle.op_collect.proofs.merging.SortMerge.first_empty.Given as goal

abbrev pub invariant-loop-port : goal.invariant-loop-port
invariant-loop-port l = (i : ℕ) → 0 ≤ i → i < l.port → not (asks_at l.self.lanes.items i) ≡ true
