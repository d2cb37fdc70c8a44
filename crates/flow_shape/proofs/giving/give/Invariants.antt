use Rattle.flow_shape.specs.Giving.{HasGiven}
use Rattle.flow_shape.proofs.giving.give.Given as goal

abbrev pub invariant-loop-link : goal.invariant-loop-link
invariant-loop-link l = HasGiven l.flow l.fn.schemas.items l.schemas.items l.op l.link
