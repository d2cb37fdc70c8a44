use Rattle.std.proofs.Common.{◌≡◌, take}
use Rattle.osh_read.specs.Joining.{all_redirects}
use Rattle.osh_read.proofs.links.all_redirects.Given as goal

abbrev pub invariant-loop-stage : goal.invariant-loop-stage
invariant-loop-stage l = l.all ≡ all_redirects (take l.stage-index l.stages)
