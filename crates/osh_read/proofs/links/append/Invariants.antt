use Rattle.std.proofs.Common.{◌≡◌, ◌++◌, take}
use Rattle.osh_read.proofs.links.append.Given as goal

abbrev pub invariant-loop-redirect : goal.invariant-loop-redirect
invariant-loop-redirect l = l.all ≡ l.fn.all ++ take l.redirect-index l.more
