use Rattle.std.proofs.Common.{◌≡◌, ◌-◌}
use Rattle.osh_read.specs.Reading.{repeated}
use Rattle.osh_read.specs.Stages.{directive_at, directed, directives_at}
use Rattle.osh_read.proofs.stages.directives.Given as goal

abbrev pub invariant-loop-count : goal.invariant-loop-count
invariant-loop-count l = repeated (λ found. directive_at) directed (l.count - l._count) l.found l.cursor ≡ directives_at l.fn.cursor
