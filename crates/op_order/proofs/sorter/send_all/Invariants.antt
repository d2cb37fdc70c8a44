use Rattle.std.proofs.Common.{map}
use Rattle.streams.specs.Streams.{sends}
use Rattle.op_base.specs.Emits.{Adds}
use Rattle.op_order.specs.Marks.{rows_in}
use Rattle.op_order.proofs.sorter.send_all.Given as goal

abbrev pub invariant-loop-row : goal.invariant-loop-row
invariant-loop-row l = Adds l.fn.emit l.emit (map (sends 0) (rows_in l.yielded))
