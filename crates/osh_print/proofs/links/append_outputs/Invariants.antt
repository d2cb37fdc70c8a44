use Rattle.std.proofs.Common.{◌≡◌, ◌++◌, ◌-◌}
use Rattle.osh_print.specs.LinkText.{outputs_from, outputs_text}
use Rattle.osh_print.proofs.links.append_outputs.Given as goal

-- the text so far and the ports that are left are the text of all
abbrev pub invariant-loop-out : goal.invariant-loop-out
invariant-loop-out l = l.text ++ outputs_from l.links l.from (l.count - l.out) l.out ≡ l.fn.text ++ outputs_text l.from l.links
