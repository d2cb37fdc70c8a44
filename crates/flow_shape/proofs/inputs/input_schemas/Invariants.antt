use Rattle.std.proofs.Common.{◌≡◌, map}
use Rattle.flow_shape.proofs.Entries.{inputs_below}
use Rattle.flow_shape.proofs.inputs.input_schemas.Given as goal

abbrev pub invariant-loop-link : goal.invariant-loop-link
invariant-loop-link l = map (λ s. s.now) l.ins.items ≡ inputs_below l.flow l.schemas l.op l.link
