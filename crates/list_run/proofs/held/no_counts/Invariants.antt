use Rattle.std.proofs.Common.{◌≡◌, length}
use Rattle.list_run.proofs.held.no_counts.Given as goal

abbrev pub invariant-loop : goal.invariant-loop
invariant-loop l = length l.counts.items ≡ l.counter
