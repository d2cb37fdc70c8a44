use Rattle.std.proofs.Common.{◌≡◌, drop}
use Rattle.flow_derive.specs.Derive.{agree_sets}
use Rattle.flow_derive.proofs.CodeSteps.{onto}
use Rattle.flow_derive.proofs.rows.agree_sets.Given as goal

abbrev pub invariant-loop-state : goal.invariant-loop-state
invariant-loop-state l = agree_sets l.states ≡ onto l.found.items (agree_sets (drop l.state-index l.states))
