use Rattle.std.proofs.Common.{IsTrue}
use Rattle.ds_text.proofs.Underway.{Underway}
use Rattle.ds_text.proofs.line_reader.Lines.next_line.Given as goal

abbrev pub invariant-loop-into : goal.invariant-loop-into
invariant-loop-into g l = Underway (IsTrue g.S.Source.tells) l.fn.self l.self l.begun l.into

abbrev pub decreases-loop-into : goal.decreases-loop-into
decreases-loop-into g l = l.self.room
