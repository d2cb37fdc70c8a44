use Rattle.std.proofs.Common.{◌≡◌, take}
use Rattle.osh_read.specs.Joining.{ops}
use Rattle.osh_read.proofs.links.ops.Given as goal

abbrev pub invariant-loop-stage : goal.invariant-loop-stage
invariant-loop-stage l = l.all ≡ ops (take l.stage-index l.stages)
