use Rattle.std.proofs.Common.{map, take}
use Rattle.streams.specs.Streams.{sends}
use Rattle.op_base.specs.Columns.{no_row}
use Rattle.op_base.specs.Emits.{Adds}
use Rattle.op_join.specs.Waiting.{meant, left_row}
use Rattle.op_join.proofs.layout.Layout.send_lefts.Given as goal

abbrev pub invariant-loop-a : goal.invariant-loop-a
invariant-loop-a l = Adds l.fn.emit l.emit (map (sends 0) (map (left_row (meant l.self) no_row) (take l.a-index l.lefts)))
