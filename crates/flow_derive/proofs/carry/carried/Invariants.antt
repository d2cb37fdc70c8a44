use Rattle.std.proofs.Common.{◌≡◌, drop}
use Rattle.flow_derive.specs.Derive.{carried}
use Rattle.flow_derive.proofs.CodeSteps.{onto}
use Rattle.flow_derive.proofs.carry.carried.Given as goal

abbrev pub invariant-loop-column : goal.invariant-loop-column
invariant-loop-column l = carried l.pairs l.columns ≡ onto l.found (carried l.pairs (drop l.column-index l.columns))
