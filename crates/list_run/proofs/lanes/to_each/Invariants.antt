use Rattle.std.proofs.Common.{◌≡◌, ◌-◌, replicate}
use Rattle.list_run.proofs.lanes.to_each.Given as goal

abbrev pub invariant-loop : goal.invariant-loop
invariant-loop l = l.got ≡ replicate (l.counter - 1) l.rows
