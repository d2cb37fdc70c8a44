use Rattle.std.proofs.Common.{◌≡◌, length}
use Rattle.config_read.specs.Reading.{more_pools_at}
use Rattle.config_read.proofs.entry.more_pools.Given as goal

abbrev pub invariant-loop-token : goal.invariant-loop-token
invariant-loop-token l = more_pools_at l.node l.cursor ≡ more_pools_at l.fn.node l.fn.cursor

abbrev pub decreases-loop-token : goal.decreases-loop-token
decreases-loop-token l = length l.cursor
