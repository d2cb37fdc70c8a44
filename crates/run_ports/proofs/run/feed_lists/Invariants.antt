use Rattle.std.proofs.Common.{◌≡◌, length}
use Rattle.std.specs.List.{sum_by}
use Rattle.run_ports.specs.Driving.{IsFeeding}
use Rattle.run_ports.specs.PortLists.{list_of}
use Rattle.run_ports.proofs.run.feed_lists.Given as goal

abbrev pub invariant-loop-port : goal.invariant-loop-port
invariant-loop-port g l = record {
  stream : g.O.Operator.stream l.op ≡ g.O.Operator.stream l.fn.op;
  suits : g.O.Operator.suits l.op ≡ g.O.Operator.suits l.fn.op;
  count : length l.inputs.items ≡ length l.fn.lists.items;
  feeding : IsFeeding (g.O.Operator.stream l.fn.op) (g.O.Operator.Stands l.op) (list_of l.fn.lists.items) l.inputs.items l.fn.emit l.emit;
}

abbrev pub decreases-loop-port : goal.decreases-loop-port
decreases-loop-port g l = sum_by length l.inputs.items
