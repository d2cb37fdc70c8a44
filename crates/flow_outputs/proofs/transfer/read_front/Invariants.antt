use Rattle.std.proofs.Common.{◌≡◌, ◌≤◌, ◌+◌, ◌-◌, ◌++◌, length, IsTrue}
use Rattle.flow_outputs.proofs.transfer.read_front.Given as goal

abbrev pub invariant-loop-buf : goal.invariant-loop-buf
invariant-loop-buf g l = record {
  told : IsTrue g.S.Source.tells → l.bytes ++ g.S.Source.rest l.source ≡ g.S.Source.rest l.fn.source;
  within : length l.bytes ≤ l.limit + 1;
  later : g.S.Source.faults l.fn.source ≤ g.S.Source.faults l.source;
}

abbrev pub decreases-loop-buf : goal.decreases-loop-buf
decreases-loop-buf g l = l.limit + 1 - length l.bytes
