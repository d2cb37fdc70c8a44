use Rattle.std.proofs.Common.{◌≡◌, drop}
use Rattle.ds_schema.specs.Rows.{cols, val, vals_cmp, ways}
use Rattle.op_join.proofs.columns.compare_keys.Given as goal

-- the keys that are left decide
abbrev pub invariant-loop-i : goal.invariant-loop-i
invariant-loop-i l = vals_cmp (ways (drop l.i l.lefts)) (val (cols (drop l.i l.lefts)) l.a) (val (cols (drop l.i l.rights)) l.b) ≡ vals_cmp (ways l.left) (val (cols l.left) l.a) (val (cols l.right) l.b)
