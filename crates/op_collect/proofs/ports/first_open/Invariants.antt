use Rattle.std.proofs.Common.{◌≡◌, ◌≤◌, ◌<◌, ℕ, true, false, get_or}
use Rattle.op_collect.proofs.ports.first_open.Given as goal

abbrev pub invariant-loop-port : goal.invariant-loop-port
invariant-loop-port l = record { from : l.from ≤ l.port; over : (i : ℕ) → l.from ≤ i → i < l.port → get_or l.over i false ≡ true }
