use Rattle.std.specs.List.{AllByRecursion}
use Rattle.op_row.specs.Expressed.{IsSet}
use Rattle.op_tests.proofs.rows.transforming.sets.Given as goal

abbrev pub invariant-loop-plan : goal.invariant-loop-plan
invariant-loop-plan l = AllByRecursion (IsSet l.schema) l.sets.items
