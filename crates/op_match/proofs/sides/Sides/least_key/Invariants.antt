use Rattle.op_match.specs.Waiting.{ways_in}
use Rattle.op_match.proofs.Taking.{IsLeast}
use Rattle.op_match.proofs.sides.Sides.least_key.Given as goal

abbrev pub invariant-loop-side : goal.invariant-loop-side
invariant-loop-side l = IsLeast (ways_in l.self.list.items) l.self.list.items l.side-index l.least
