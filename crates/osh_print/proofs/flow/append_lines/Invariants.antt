use Rattle.std.proofs.Common.{◌≡◌, ◌++◌, drop}
use Rattle.osh_print.specs.FlowText.{lines}
use Rattle.osh_print.proofs.flow.append_lines.Given as goal

-- the text so far and the operators that are left are the text of all
abbrev pub invariant-loop-number : goal.invariant-loop-number
invariant-loop-number l = l.text ++ lines l.links l.number (drop l.number l.ops) ≡ l.fn.text ++ lines l.links 0 l.ops
