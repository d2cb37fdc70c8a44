use Rattle.ds_text.proofs.ColumnWriting.{WritesColumns}
use Rattle.ds_text.proofs.write_columns.write_columns.Given as goal

abbrev pub invariant-loop-i : goal.invariant-loop-i
invariant-loop-i l = WritesColumns l.fields l.widths l.row l.i l.fn.into l.into
