use Rattle.std.proofs.Common.{◌≡◌, take}
use Rattle.ds_schema.specs.Rows.{val, cols}
use Rattle.op_group.proofs.giving.key_values.Given as goal

abbrev pub invariant-loop-key : goal.invariant-loop-key
invariant-loop-key l = l.values.items ≡ val (cols (take l.key-index l.keys)) l.row
