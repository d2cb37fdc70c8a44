use Rattle.std.proofs.Common.{◌≡◌, ◌++◌, drop}
use Rattle.osh_read.specs.Joining.{links_of}
use Rattle.osh_read.proofs.links.links_of.Given as goal

abbrev pub invariant-loop-redirect : goal.invariant-loop-redirect
invariant-loop-redirect l = l.links ++ links_of l.outs l.to l.port (drop l.redirect-index l.redirects) ≡ l.fn.links ++ links_of l.outs l.to l.first l.redirects
