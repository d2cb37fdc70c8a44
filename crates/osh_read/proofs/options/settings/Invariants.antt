use Rattle.std.proofs.Common.{◌≡◌, ◌-◌}
use Rattle.osh_read.specs.Reading.{repeated, append}
use Rattle.osh_read.specs.Options.{next_setting_at, settings_at}
use Rattle.osh_read.proofs.options.settings.Given as goal

abbrev pub invariant-loop-count : goal.invariant-loop-count
invariant-loop-count l = repeated (next_setting_at l.op l.cut) append (l.count - l._count) l.found l.cursor ≡ settings_at l.op l.cut l.fn.cursor
