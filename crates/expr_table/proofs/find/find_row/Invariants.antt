use Rattle.std.proofs.Common.{◌≡◌, drop}
use Rattle.std.specs.List.{position_from}
use Rattle.expr_table.specs.TableRows.{has}
use Rattle.expr_table.proofs.find.find_row.Given as goal

-- the rows so far have them not
abbrev pub invariant-loop-i : goal.invariant-loop-i
invariant-loop-i l = position_from (has l.name l.args) l.i (drop l.i l.row-items) ≡ position_from (has l.name l.args) 0 l.row-items
