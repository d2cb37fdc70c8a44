use Rattle.std.proofs.Common.{◌≡◌, length}
use Rattle.flow_shape.proofs.typing.placeholders.Given as goal

abbrev pub invariant-loop-link : goal.invariant-loop-link
invariant-loop-link l = length l.schemas.items ≡ l._link
