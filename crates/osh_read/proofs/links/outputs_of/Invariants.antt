use Rattle.std.proofs.Common.{◌≡◌, ◌++◌, drop}
use Rattle.osh_read.specs.Joining.{outputs_of}
use Rattle.osh_read.proofs.links.outputs_of.Given as goal

abbrev pub invariant-loop-redirect : goal.invariant-loop-redirect
invariant-loop-redirect l = l.outs ++ outputs_of l.from l.port (drop l.redirect-index l.redirects) ≡ l.fn.outs ++ outputs_of l.from l.out l.redirects
