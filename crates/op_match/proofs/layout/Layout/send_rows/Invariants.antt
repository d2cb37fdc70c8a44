use Rattle.std.proofs.Common.{map, take}
use Rattle.streams.specs.Streams.{sends}
use Rattle.op_base.specs.Emits.{Adds}
use Rattle.op_match.proofs.layout.Layout.send_rows.Given as goal

abbrev pub invariant-loop-row : goal.invariant-loop-row
invariant-loop-row l = Adds l.fn.emit l.emit (map (sends l.port) (take l.row-index l.rows))
