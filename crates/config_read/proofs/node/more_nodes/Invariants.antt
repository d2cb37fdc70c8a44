use Rattle.std.proofs.Common.{◌≡◌, length}
use Rattle.config_read.specs.Reading.{nodes_at}
use Rattle.config_read.proofs.node.more_nodes.Given as goal

abbrev pub invariant-loop-alloc : goal.invariant-loop-alloc
invariant-loop-alloc l = nodes_at l.nodes l.cursor ≡ nodes_at l.fn.nodes l.fn.cursor

abbrev pub decreases-loop-alloc : goal.decreases-loop-alloc
decreases-loop-alloc l = length l.cursor
