use Rattle.std.proofs.Common.{◌≡◌, ◌≤◌, false, [], IsTrue}
use Rattle.ds_text.specs.Readers.{remaining}
use Rattle.flow_files.specs.Lines.{AllFit, AreOfLines}
use Rattle.flow_files.specs.Steps.{AreFew}
use Rattle.flow_files.proofs.Underway.{Underway}
use Rattle.flow_files.proofs.import.read_rows.Given as goal

abbrev pub invariant-loop-run : goal.invariant-loop-run
invariant-loop-run g l = record {
  told : IsTrue g.S.Source.tells → AreFew (remaining l.fn.lines) → Underway l.form l.schema l.op l.rejects (remaining l.fn.lines) (remaining l.lines) l.run l.fn.tally l.tally;
  fit : AllFit l.schema l.run.rows.items;
  lines : AreOfLines l.run.rejected.items;
  none : l.rejects ≡ false → l.run.rejected.items ≡ [];
  later : l.fn.lines.faults ≤ l.lines.faults;
}

abbrev pub decreases-loop-run : goal.decreases-loop-run
decreases-loop-run g l = l.lines.room
