use Rattle.std.proofs.Common.{map, take}
use Rattle.streams.specs.Streams.{sends}
use Rattle.op_base.specs.Emits.{Adds}
use Rattle.op_match.specs.Changed.{pairs}
use Rattle.op_match.proofs.change.Changes.send_pairs.Given as goal

abbrev pub invariant-loop-i : goal.invariant-loop-i
invariant-loop-i l = Adds l.fn.emit l.emit (map (sends 0) (pairs l.self.values.items l.self.keep (take l.i l.befores) (take l.i l.afters)))
