use Rattle.std.proofs.Common.{◌≡◌, ◌++◌, flat_map}
use Rattle.std.specs.List.{range_with_len}
use Rattle.flow_score.specs.Scores.{op_of}
use Rattle.flow_score.proofs.score.put_ops.Given as goal

abbrev pub invariant-loop-op : goal.invariant-loop-op
invariant-loop-op l = l.text ≡ l.fn.text ++ flat_map (op_of l.shaped l.nodes) (range_with_len 0 l.op)
