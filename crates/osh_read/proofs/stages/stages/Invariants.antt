use Rattle.std.proofs.Common.{◌≡◌, ◌-◌, length, []}
use Rattle.osh_read.specs.declared.stage.Joint.TheVariants.{Apart}
use Rattle.osh_read.specs.Stages.{stages_at}
use Rattle.osh_read.proofs.stages.stages.Given as goal

abbrev pub invariant-loop-count : goal.invariant-loop-count
invariant-loop-count l = stages_at (l.count - l._count) l.cut l.joined l.found l.cursor ≡ stages_at (length l.fn.cursor) l.cut Apart [] l.fn.cursor
