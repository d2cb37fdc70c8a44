use Rattle.std.proofs.Common.{◌≡◌, map}
use Rattle.op_base.specs.Keyed.{arranged}
use Rattle.list_run.proofs.delivery.sort_each.Given as goal

abbrev pub invariant-loop-rows : goal.invariant-loop-rows
invariant-loop-rows l = l.sorted ≡ map (arranged l.keys) l.yielded
