use Rattle.std.proofs.Common.{◌≡◌, ◌++◌, take}
use Rattle.op_lookup.proofs.rows.with_values.Given as goal

abbrev pub invariant-loop-value : goal.invariant-loop-value
invariant-loop-value l = l.values.items ≡ l.fn.row ++ take l.value-index l.more
