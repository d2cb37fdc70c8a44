use Rattle.std.proofs.Common.{map, take}
use Rattle.streams.specs.Streams.{sends}
use Rattle.op_base.specs.Emits.{Adds}
use Rattle.op_match.specs.Changed.{with_code}
use Rattle.op_match.proofs.change.Changes.send_left_over.Given as goal

abbrev pub invariant-loop-row : goal.invariant-loop-row
invariant-loop-row l = Adds l.fn.emit l.emit (map (sends 0) (map (with_code l.change) (take l.row-index l.rows)))
