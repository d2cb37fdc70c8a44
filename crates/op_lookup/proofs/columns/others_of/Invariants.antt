use Rattle.std.proofs.Common.{◌≡◌}
use Rattle.op_lookup.specs.Looked.{others_of}
use Rattle.op_lookup.proofs.columns.others_of.Given as goal

abbrev pub invariant-loop-col : goal.invariant-loop-col
invariant-loop-col l = l.others.items ≡ others_of l.key l.col-counter
