use Rattle.std.proofs.Common.{◌≡◌, length}
use Rattle.flow_derive.proofs.Fills.{AreKnown}
use Rattle.flow_derive.proofs.states.all_states.Given as goal

abbrev pub invariant-loop-op : goal.invariant-loop-op
invariant-loop-op l = record {
  each : length l.states.items ≡ length l.shaped.flow.links;
  known : AreKnown l.shaped l.op-index l.states.items;
}
