use Rattle.std.proofs.Common.{◌≡◌, drop}
use Rattle.osh_table.specs.Words.{operator_among, operator_named}
use Rattle.osh_table.proofs.operator.operator_named.Given as goal

abbrev pub invariant-loop-op : goal.invariant-loop-op
invariant-loop-op l = operator_among (drop l.op-index l.op-items) l.word ≡ operator_named l.word
