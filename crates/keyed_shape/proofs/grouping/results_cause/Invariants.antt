use Rattle.std.proofs.Common.{◌≡◌, drop}
use Rattle.shape_base.specs.Causes.{first_cause}
use Rattle.keyed_shape.specs.Keyed.{result_causes}
use Rattle.keyed_shape.proofs.grouping.results_cause.Given as goal

abbrev pub invariant-loop-agg : goal.invariant-loop-agg
invariant-loop-agg l = first_cause (result_causes (drop l.agg-index l.results) l.fields) ≡ first_cause (result_causes l.results l.fields)
