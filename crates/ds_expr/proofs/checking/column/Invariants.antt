use Rattle.std.proofs.Common.{◌≡◌, drop}
use Rattle.ds_expr.specs.Typing.{typed_column}
use Rattle.ds_expr.proofs.checking.column.Given as goal

abbrev pub invariant-loop-i : goal.invariant-loop-i
invariant-loop-i l = typed_column l.at l.i l.name (drop l.i l.fields) ≡ typed_column l.at 0 l.name l.fields
