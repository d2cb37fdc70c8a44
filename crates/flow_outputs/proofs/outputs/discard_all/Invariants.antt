use Rattle.std.proofs.Common.{◌≡◌, ◌≤◌, ◌-◌, length}
use Rattle.flow_outputs.proofs.outputs.discard_all.Given as goal

abbrev pub invariant-loop-output : goal.invariant-loop-output
invariant-loop-output g l =
    (g.F.Files.holds l.files ≡ g.F.Files.holds l.fn.files)
    × (g.F.Files.lent l.files ≡ g.F.Files.lent l.fn.files - length l.yielded)
    × (g.F.Files.faults l.fn.files ≤ g.F.Files.faults l.files)
