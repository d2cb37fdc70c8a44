use Rattle.std.proofs.Common.{◌≡◌, ◌++◌, flat_map}
use Rattle.std.specs.List.{range_with_len}
use Rattle.flow_score.specs.VerdictText.{sink_at}
use Rattle.flow_score.proofs.verdict.put_sinks.Given as goal

abbrev pub invariant-loop-op : goal.invariant-loop-op
invariant-loop-op l = l.text ≡ l.fn.text ++ flat_map (sink_at l.shaped l.states) (range_with_len 0 l.op)
