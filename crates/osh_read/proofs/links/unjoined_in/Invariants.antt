use Rattle.std.proofs.Common.{◌≡◌, drop}
use Rattle.osh_read.specs.Joining.{unjoined_in}
use Rattle.osh_read.proofs.links.unjoined_in.Given as goal

abbrev pub invariant-loop-redirect : goal.invariant-loop-redirect
invariant-loop-redirect l = unjoined_in l.all (drop l.redirect-index l.rest) ≡ unjoined_in l.all l.rest
