use Rattle.std.proofs.Common.{◌≡◌}
use Rattle.flow_rules.proofs.Refusals.{choices_below}
use Rattle.flow_rules.proofs.checker.choices.Given as goal

abbrev pub invariant-loop-link : goal.invariant-loop-link
invariant-loop-link l = l.found.items ≡ choices_below l.shaped l.link
