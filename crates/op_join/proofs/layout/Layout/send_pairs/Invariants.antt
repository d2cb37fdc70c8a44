use Rattle.std.proofs.Common.{map, take}
use Rattle.streams.specs.Streams.{sends}
use Rattle.op_base.specs.Emits.{Adds}
use Rattle.op_join.specs.Waiting.{meant, left_row}
use Rattle.op_join.proofs.layout.Layout.send_pairs.Given as goal

abbrev pub invariant-loop-b : goal.invariant-loop-b
invariant-loop-b l = Adds l.fn.emit l.emit (map (sends 0) (map (λ b. left_row (meant l.self) b l.a) (take l.b-index l.rights)))
