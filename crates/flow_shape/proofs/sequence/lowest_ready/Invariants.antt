use Rattle.std.proofs.Common.{◌≡◌, ◌<◌, ℕ, false}
use Rattle.flow_shape.specs.Links.{is_ready}
use Rattle.flow_shape.proofs.sequence.lowest_ready.Given as goal

abbrev pub invariant-loop-op : goal.invariant-loop-op
invariant-loop-op l = (j : ℕ) → j < l.op → is_ready l.links l.done j ≡ false
