use Rattle.std.proofs.Common.{◌≡◌, ◌-◌, ◌++◌, length, replicate}
use Rattle.ds_expr.proofs.assigning.filled.Given as goal

abbrev pub invariant-loop-round : goal.invariant-loop-round
invariant-loop-round l = l.text ≡ l.fn.bytes ++ replicate (l._round - length l.fn.bytes) 32
