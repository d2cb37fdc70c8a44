use Rattle.std.proofs.Common.{◌≡◌, drop}
use Rattle.op_row.specs.Judging.{case_at}
use Rattle.op_row.proofs.switching.find.Given as goal

abbrev pub invariant-loop-i : goal.invariant-loop-i
invariant-loop-i l = case_at l.number l.i (drop l.i l.cases) ≡ case_at l.number 0 l.cases
