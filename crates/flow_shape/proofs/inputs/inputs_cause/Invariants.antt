use Rattle.std.proofs.Common.{◌≡◌}
use Rattle.flow_shape.proofs.Entries.{causes_from}
use Rattle.flow_shape.proofs.inputs.inputs_cause.Given as goal

abbrev pub invariant-loop-link : goal.invariant-loop-link
invariant-loop-link l = causes_from l.flow l.schemas l.op l.link ≡ causes_from l.flow l.schemas l.op 0
