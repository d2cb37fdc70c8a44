use Rattle.op_base.specs.Emits.{Adds}
use Rattle.op_base.specs.RowOperators.{copy_rule}
use Rattle.op_row.specs.ByRow.{to_outputs}
use Rattle.op_row.proofs.copying.send_copies.Given as goal

abbrev pub invariant-loop-out : goal.invariant-loop-out
invariant-loop-out l = Adds l.fn.emit l.emit (to_outputs copy_rule l.out l.row)
