use Rattle.std.proofs.Common.{◌≡◌, length}
use Rattle.config_read.specs.Reading.{behind_quoted}
use Rattle.config_read.proofs.entry.pass_quoted.Given as goal

abbrev pub invariant-loop : goal.invariant-loop
invariant-loop l = behind_quoted l.cursor ≡ behind_quoted l.fn.cursor

abbrev pub decreases-loop : goal.decreases-loop
decreases-loop l = length l.cursor
