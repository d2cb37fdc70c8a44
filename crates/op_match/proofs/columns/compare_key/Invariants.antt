use Rattle.std.proofs.Common.{◌≡◌, drop}
use Rattle.ds_schema.specs.Rows.{cols, val, vals_cmp, ways}
use Rattle.op_match.proofs.columns.compare_key.Given as goal

-- the keys that are left decide
abbrev pub invariant-loop-i : goal.invariant-loop-i
invariant-loop-i l = vals_cmp (ways (drop l.i l.list)) (val (cols (drop l.i l.list)) l.row) (drop l.i l.values) ≡ vals_cmp (ways l.keys) (val (cols l.keys) l.row) l.key
