use Rattle.std.proofs.Common.{◌<◌, ℕ}
use Rattle.flow_shape.specs.Ports.{WrongPorts}
use Rattle.flow_shape.proofs.ports.lowest_wrong_ports.Given as goal

abbrev pub invariant-loop-op : goal.invariant-loop-op
invariant-loop-op l = (j : ℕ) → j < l.op → WrongPorts l.flow j → ⊥
