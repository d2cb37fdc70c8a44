use Rattle.std.proofs.Common.{◌≡◌, take}
use Rattle.ds_schema.specs.Rows.{cols, val}
use Rattle.op_match.proofs.columns.key_of.Given as goal

abbrev pub invariant-loop-key : goal.invariant-loop-key
invariant-loop-key l = l.values.items ≡ val (cols (take l.key-index l.key-items)) l.row
