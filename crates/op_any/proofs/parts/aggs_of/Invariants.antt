use Rattle.std.proofs.Common.{◌≡◌, ◌++◌, drop}
use Rattle.flow_ops.specs.Keyed.{aggs_of}
use Rattle.op_any.proofs.parts.aggs_of.Given as goal

abbrev pub invariant-loop-spec : goal.invariant-loop-spec
invariant-loop-spec l = l.aggs.items ++ aggs_of (drop l.spec-index l.spec-items) l.rest ≡ aggs_of l.fn.results l.fn.cols
