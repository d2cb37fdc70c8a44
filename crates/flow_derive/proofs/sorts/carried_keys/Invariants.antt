use Rattle.std.proofs.Common.{◌≡◌, ◌++◌, drop}
use Rattle.flow_derive.specs.Derive.{carried_sort}
use Rattle.flow_derive.proofs.sorts.carried_keys.Given as goal

abbrev pub invariant-loop-key : goal.invariant-loop-key
invariant-loop-key l = l.found.items ++ carried_sort l.pairs (drop l.key-index l.key-items) ≡ carried_sort l.pairs l.key-items
