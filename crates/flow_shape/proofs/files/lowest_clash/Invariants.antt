use Rattle.std.proofs.Common.{◌<◌, ℕ}
use Rattle.flow_shape.specs.Files.{Clashes}
use Rattle.flow_shape.proofs.files.lowest_clash.Given as goal

abbrev pub invariant-loop-op : goal.invariant-loop-op
invariant-loop-op l = (j : ℕ) → j < l.op → Clashes l.flow.ops j → ⊥
