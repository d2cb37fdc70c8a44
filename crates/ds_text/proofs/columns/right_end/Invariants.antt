use Rattle.std.proofs.Common.{◌≡◌, ◌≤◌, length, take}
use Rattle.ds_text.specs.Columns.{without_right_spaces}
use Rattle.ds_text.proofs.columns.right_end.Given as goal

abbrev pub invariant-loop-end : goal.invariant-loop-end
invariant-loop-end l = (l.end ≤ length l.bytes) × (without_right_spaces (take l.end l.bytes) ≡ without_right_spaces l.bytes)

abbrev pub decreases-loop-end : goal.decreases-loop-end
decreases-loop-end l = l.end
