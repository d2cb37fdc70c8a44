use Rattle.std.proofs.Common.{◌≡◌, drop}
use Rattle.flow_rules.specs.Needs.{begins_with}
use Rattle.flow_rules.proofs.needs.begins_with.Given as goal

abbrev pub invariant-loop-i : goal.invariant-loop-i
invariant-loop-i l = begins_with l.key-items l.found ≡ begins_with (drop l.i l.key-items) (drop l.i l.found)
