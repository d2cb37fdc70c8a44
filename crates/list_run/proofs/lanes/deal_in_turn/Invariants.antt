use Rattle.std.proofs.Common.{◌≡◌, ◌<◌, ◌+◌, ◌%◌, length}
use Rattle.list_run.specs.Dealt.{Deals, turn_goes}
use Rattle.list_run.proofs.lanes.deal_in_turn.Given as goal

abbrev pub invariant-loop-row : goal.invariant-loop-row
invariant-loop-row l = record {
  below : l.at < l.count;
  turn : l.at ≡ (l.fn.first + length l.yielded) % l.count;
  dealt : Deals (turn_goes l.fn.first l.count) l.yielded l.fn.lists.items l.lists.items;
}
