use Rattle.std.proofs.Common.{◌≡◌, ◌++◌, drop}
use Rattle.ds_schema.specs.Rows.{cols}
use Rattle.op_any.proofs.parts.key_columns.Given as goal

abbrev pub invariant-loop-key : goal.invariant-loop-key
invariant-loop-key l = l.columns.items ++ cols (drop l.key-index l.key-items) ≡ cols l.key-items
