use Rattle.std.proofs.Common.{◌≡◌, ◌<◌, ℕ, true, length}
use Rattle.op_collect.specs.Merging.{asks_at}
use Rattle.op_collect.proofs.merging.empty_lanes.Given as goal

abbrev pub invariant-loop-port : goal.invariant-loop-port
invariant-loop-port l = record { long : length l.lanes.items ≡ l._port; empty : (i : ℕ) → i < l._port → asks_at l.lanes.items i ≡ true }
