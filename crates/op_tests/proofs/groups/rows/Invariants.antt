use Rattle.std.specs.List.{AllByRecursion}
use Rattle.op_group.proofs.Fixtures.{IsNumbers}
use Rattle.op_tests.proofs.groups.rows.Given as goal

abbrev pub invariant-loop-key : goal.invariant-loop-key
invariant-loop-key l = AllByRecursion IsNumbers l.rows.items
