use Rattle.std.proofs.Common.{suc, map}
use Rattle.std.specs.List.{flat_map, range_with_len}
use Rattle.streams.specs.Streams.{sends}
use Rattle.op_base.specs.Emits.{Adds}
use Rattle.op_base.specs.Meanings.{input}
use Rattle.op_match.specs.Merged.{left_over}
use Rattle.op_match.proofs.layout.Layout.send_rejects.Given as goal

abbrev pub invariant-loop-i : goal.invariant-loop-i
invariant-loop-i l = Adds l.fn.emit l.emit (flat_map (λ i. map (sends (suc i)) (left_over l.has_master (input i l.updates))) (range_with_len 0 l.i))
