use Rattle.std.proofs.Common.{◌≡◌, ◌≤◌, ◌<◌, ◌+◌, ℕ, None, IsTrue, drop, get_or, length}
use Rattle.flow_graph.specs.Charts.{no_op}
use Rattle.osh_ends.specs.FlowFiles.{first_missing}
use Rattle.run_feed.specs.Inputs.{IsInput, all_faults, number_of}
use Rattle.run_feed.proofs.finding.find_each.Given as goal

abbrev pub invariant-loop-op : goal.invariant-loop-op
invariant-loop-op g l = record {
  count : length l.inputs.by_operator.items ≡ l.op-index;
  each : (o : ℕ) → o < l.op-index → IsInput (IsTrue g.F.Files.tells) g.F.Input.Source.rest (g.F.Files.holds l.fn.files) (get_or l.ops o no_op).kind (get_or l.inputs.by_operator.items o None);
  fresh : all_faults g.F.Input.Source.faults l.inputs.by_operator.items ≡ 0;
  left : IsTrue g.F.Files.tells → first_missing (g.F.Files.holds l.fn.files) l.ops ≡ first_missing (g.F.Files.holds l.fn.files) (drop l.op-index l.ops);
  same : g.F.Files.holds l.files ≡ g.F.Files.holds l.fn.files;
  lent : g.F.Files.lent l.files ≡ g.F.Files.lent l.fn.files + number_of l.inputs.by_operator.items;
  later : g.F.Files.faults l.fn.files ≤ g.F.Files.faults l.files;
}
