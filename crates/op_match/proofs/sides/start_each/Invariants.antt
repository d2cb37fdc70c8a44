use Rattle.std.proofs.Common.{◌≡◌}
use Rattle.std.specs.List.{AllByRecursion}
use Rattle.op_match.specs.Waiting.{keys_in, IsFresh}
use Rattle.op_match.proofs.sides.start_each.Given as goal

abbrev pub invariant-loop-own : goal.invariant-loop-own
invariant-loop-own l = record { keys : keys_in l.list.items ≡ l.yielded; fresh : AllByRecursion IsFresh l.list.items }
