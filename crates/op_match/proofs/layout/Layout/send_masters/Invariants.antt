use Rattle.std.proofs.Common.{map, take}
use Rattle.streams.specs.Streams.{sends}
use Rattle.op_base.specs.Emits.{Adds}
use Rattle.op_match.specs.Merged.{joined}
use Rattle.op_match.proofs.layout.Layout.send_masters.Given as goal

abbrev pub invariant-loop-row : goal.invariant-loop-row
invariant-loop-row l = Adds l.fn.emit l.emit (map (sends 0) (map (joined l.self l.updates) (take l.row-index l.rows)))
