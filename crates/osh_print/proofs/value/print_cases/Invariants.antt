use Rattle.std.proofs.Common.{◌≡◌, ◌++◌, drop}
use Rattle.std.specs.Prelude.{codes}
use Rattle.std.specs.List.{flat_map}
use Rattle.std.specs.Fmt.{signed_decimal}
use Rattle.osh_print.specs.OptionText.{with_commas}
use Rattle.osh_print.proofs.value.print_cases.Given as goal

-- the text so far and the cases that are left are the text of all
abbrev pub invariant-loop-case : goal.invariant-loop-case
invariant-loop-case l = l.text ++ flat_map (λ y. codes "," ++ signed_decimal y) (drop l.case-index l.others) ≡ with_commas signed_decimal l.cases
