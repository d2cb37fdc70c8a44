use Rattle.std.proofs.Common.{◌≡◌, ◌++◌, drop}
use Rattle.op_base.specs.Keyed.{without}
use Rattle.flow_derive.proofs.sorts.with_old.Given as goal

abbrev pub invariant-loop-key : goal.invariant-loop-key
invariant-loop-key l = l.found.items ++ without l.keys (drop l.key-index l.key-items) ≡ l.keys ++ without l.keys l.key-items
