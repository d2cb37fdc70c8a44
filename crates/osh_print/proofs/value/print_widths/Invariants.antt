use Rattle.std.proofs.Common.{◌≡◌, ◌++◌, drop}
use Rattle.std.specs.Prelude.{codes}
use Rattle.std.specs.List.{flat_map}
use Rattle.std.specs.Fmt.{decimal}
use Rattle.osh_print.specs.OptionText.{with_commas}
use Rattle.osh_print.proofs.value.print_widths.Given as goal

-- the text so far and the widths that are left are the text of all
abbrev pub invariant-loop-width : goal.invariant-loop-width
invariant-loop-width l = l.text ++ flat_map (λ y. codes "," ++ decimal y) (drop l.width-index l.others) ≡ with_commas decimal l.widths
