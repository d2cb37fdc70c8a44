use Rattle.std.proofs.Common.{◌≡◌, drop}
use Rattle.ds_schema.specs.Rows.{cols}
use Rattle.op_base.specs.Columns.{is_in}
use Rattle.op_match.proofs.columns.is_key.Given as goal

-- the keys that are left decide
abbrev pub invariant-loop-key : goal.invariant-loop-key
invariant-loop-key l = is_in l.col (cols (drop l.key-index l.key-items)) ≡ is_in l.col (cols l.fn.keys)
