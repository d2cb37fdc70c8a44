use Rattle.std.proofs.Common.{◌≡◌, ◌≤◌, ◌-◌, ◌++◌, length, take, IsTrue}
use Rattle.flow_files.proofs.export.write_whole.Given as goal

abbrev pub invariant-loop-at : goal.invariant-loop-at
invariant-loop-at g l = record {
  within : l.at ≤ length l.bytes;
  told : IsTrue g.K.Sink.tells → g.K.Sink.held l.sink ≡ g.K.Sink.held l.fn.sink ++ take l.at l.bytes;
  name : g.K.Sink.name l.sink ≡ g.K.Sink.name l.fn.sink;
  later : g.K.Sink.faults l.fn.sink ≤ g.K.Sink.faults l.sink;
}

abbrev pub decreases-loop-at : goal.decreases-loop-at
decreases-loop-at g l = length l.bytes - l.at
