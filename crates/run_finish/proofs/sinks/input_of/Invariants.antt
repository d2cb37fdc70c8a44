use Rattle.std.proofs.Common.{◌≢◌, ◌<◌, ℕ}
use Rattle.flow_graph.specs.Charts.{link_at}
use Rattle.run_finish.proofs.sinks.input_of.Given as goal

abbrev pub invariant-loop-link : goal.invariant-loop-link
invariant-loop-link l = (k : ℕ) → k < l.link → (link_at l.shaped k).to ≢ l.op
