use Rattle.std.proofs.Common.{◌≡◌, ◌++◌, drop}
use Rattle.osh_print.specs.LinkText.{inputs_text}
use Rattle.osh_print.proofs.links.append_inputs.Given as goal

-- the text so far and the links that are left are the text of all
abbrev pub invariant-loop-number : goal.invariant-loop-number
invariant-loop-number l = l.text ++ inputs_text l.to l.number (drop l.number l.links) ≡ l.fn.text ++ inputs_text l.to 0 l.links
