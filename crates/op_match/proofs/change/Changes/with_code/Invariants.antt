use Rattle.std.proofs.Common.{◌≡◌, take}
use Rattle.op_match.proofs.change.Changes.with_code.Given as goal

abbrev pub invariant-loop-value : goal.invariant-loop-value
invariant-loop-value l = l.values.items ≡ take l.value-index l.own
