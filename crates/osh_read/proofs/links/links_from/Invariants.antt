use Rattle.std.proofs.Common.{◌≡◌, ◌++◌, drop}
use Rattle.osh_read.specs.Joining.{links_from}
use Rattle.osh_read.proofs.links.links_from.Given as goal

abbrev pub invariant-loop-stage : goal.invariant-loop-stage
invariant-loop-stage l = l.links ++ links_from l.outs l.to (drop l.stage-index l.stages) ≡ links_from l.outs 0 l.stages
