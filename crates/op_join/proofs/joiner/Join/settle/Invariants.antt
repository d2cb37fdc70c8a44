use Rattle.op_join.specs.Rounds.{TakesOff, row_count}
use Rattle.op_join.proofs.joiner.Join.settle.Given as goal

abbrev pub invariant-loop-order : goal.invariant-loop-order
invariant-loop-order l = TakesOff l.fn.self l.self l.fn.emit l.emit

abbrev pub decreases-loop-order : goal.decreases-loop-order
decreases-loop-order l = row_count l.self
