use Rattle.std.proofs.Common.{◌≡◌, ◌-◌}
use Rattle.osh_read.specs.Reading.{repeated, append}
use Rattle.osh_read.specs.Stages.{redirect_at, redirects_at}
use Rattle.osh_read.proofs.stages.redirects.Given as goal

abbrev pub invariant-loop-count : goal.invariant-loop-count
invariant-loop-count l = repeated (λ found. redirect_at) append (l.count - l._count) l.found l.cursor ≡ redirects_at l.fn.cursor
