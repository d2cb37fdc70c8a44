use Rattle.std.proofs.Common.{◌≡◌, ◌++◌, drop}
use Rattle.op_match.specs.Merges.{others_in}
use Rattle.op_match.proofs.maker.others_of.Given as goal

abbrev pub invariant-loop-i : goal.invariant-loop-i
invariant-loop-i l = l.found.items ++ others_in (drop l.i l.keys) (drop l.i l.widths) ≡ others_in (drop 1 l.keys) (drop 1 l.widths)
