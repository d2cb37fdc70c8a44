use Rattle.std.proofs.Common.{◌≡◌, ◌++◌, drop}
use Rattle.std.specs.Prelude.{codes}
use Rattle.std.specs.List.{flat_map}
use Rattle.osh_print.specs.OptionText.{with_commas, pair_text}
use Rattle.osh_print.proofs.value.print_pairs.Given as goal

-- the text so far and the pairs that are left are the text of all
abbrev pub invariant-loop-pair : goal.invariant-loop-pair
invariant-loop-pair l = l.text ++ flat_map (λ y. codes "," ++ pair_text y) (drop l.pair-index l.others) ≡ with_commas pair_text l.pairs
