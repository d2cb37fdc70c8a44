use Rattle.std.proofs.Common.{◌≡◌, ◌++◌, drop}
use Rattle.ds_text.specs.Records.{written_fields}
use Rattle.ds_text.proofs.FieldWriting.{written_from}
use Rattle.ds_text.proofs.write_fields.write_fields.Given as goal

abbrev pub invariant-loop-i : goal.invariant-loop-i
invariant-loop-i l = l.into ++ written_from l.delimiter l.i (drop l.i l.fields) (drop l.i l.row) ≡ l.fn.into ++ written_fields l.delimiter l.fields l.row
