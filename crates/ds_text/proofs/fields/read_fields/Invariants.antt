use Rattle.ds_text.proofs.Rests.{left_of}
use Rattle.ds_text.proofs.FieldRows.{ReadsFields}
use Rattle.ds_text.proofs.fields.read_fields.Given as goal

abbrev pub invariant-loop-field : goal.invariant-loop-field
invariant-loop-field l = ReadsFields l.delimiter l.fields l.line l.field-index (left_of l.more l.rest) l.row.items
