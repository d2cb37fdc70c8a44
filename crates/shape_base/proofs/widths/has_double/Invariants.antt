use Rattle.std.proofs.Common.{◌≡◌, drop}
use Rattle.shape_base.specs.Widths.{has_double}
use Rattle.shape_base.proofs.widths.has_double.Given as goal

abbrev pub invariant-loop-i : goal.invariant-loop-i
invariant-loop-i l = has_double (drop l.i l.fields) ≡ has_double l.fields
