use Rattle.ds_text.proofs.ColumnRows.{ReadsColumns}
use Rattle.ds_text.proofs.columns.read_columns.Given as goal

abbrev pub invariant-loop-i : goal.invariant-loop-i
invariant-loop-i l = ReadsColumns l.fields l.widths l.line l.i l.rest l.row.items
