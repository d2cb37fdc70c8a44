use Rattle.std.proofs.Common.{◌≡◌, ◌++◌, drop}
use Rattle.flow_derive.specs.Derive.{first_keys}
use Rattle.flow_derive.proofs.sorts.first_columns.Given as goal

abbrev pub invariant-loop-i : goal.invariant-loop-i
invariant-loop-i l = l.found.items ++ first_keys l.i (drop l.i l.key-items) ≡ first_keys 0 l.key-items
