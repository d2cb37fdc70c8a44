use Rattle.std.proofs.Common.{◌≡◌, ◌<◌, ◌+◌, ◌%◌, length}
use Rattle.list_run.specs.Dealt.{Dealt}
use Rattle.list_run.proofs.lanes.round_robin.Given as goal

abbrev pub invariant-loop-rows : goal.invariant-loop-rows
invariant-loop-rows l = record {
  below : l.first < l.count;
  turn : l.first ≡ length l.yielded % l.count;
  dealt : Dealt (λ p t r. (p + t) % l.count) l.yielded l.count l.lists.items;
}
