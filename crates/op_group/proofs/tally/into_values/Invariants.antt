use Rattle.std.proofs.Common.{◌≡◌, cond, Some, None}
use Rattle.op_group.specs.Kept.{kept_results}
use Rattle.op_group.proofs.tally.into_values.Given as goal

abbrev pub invariant-loop-kept : goal.invariant-loop-kept
invariant-loop-kept l = kept_results l.count l.yielded ≡ cond l.fits (Some l.values.items) None
