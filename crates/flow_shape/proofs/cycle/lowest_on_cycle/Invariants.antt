use Rattle.std.proofs.Common.{◌<◌, ℕ}
use Rattle.flow_shape.specs.Links.{OnCycle}
use Rattle.flow_shape.proofs.cycle.lowest_on_cycle.Given as goal

abbrev pub invariant-loop-op : goal.invariant-loop-op
invariant-loop-op l = (j : ℕ) → j < l.op → OnCycle l.flow.links j → ⊥
