use Rattle.std.proofs.Common.{◌≡◌, ◌++◌, length}
use Rattle.osh_read.specs.Joining.{outputs}
use Rattle.osh_read.proofs.links.outputs.Given as goal

abbrev pub invariant-loop-rest : goal.invariant-loop-rest
invariant-loop-rest l = l.outs ++ outputs l.from l.rest ≡ outputs 0 l.stages

abbrev pub decreases-loop-rest : goal.decreases-loop-rest
decreases-loop-rest l = length l.rest
