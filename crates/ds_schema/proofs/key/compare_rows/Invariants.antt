use Rattle.std.proofs.Common.{◌≡◌, drop}
use Rattle.ds_schema.specs.Rows.{row_cmp}
use Rattle.ds_schema.proofs.key.compare_rows.Given as goal

-- the keys that are left decide
abbrev pub invariant-loop-key : goal.invariant-loop-key
invariant-loop-key l = row_cmp (drop l.key-index l.key-items) l.a l.b ≡ row_cmp l.fn.keys l.a l.b
