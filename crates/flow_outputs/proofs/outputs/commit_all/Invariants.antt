use Rattle.std.proofs.Common.{◌≡◌, ◌-◌, length, map, true, IsTrue}
use Rattle.ds_port.specs.Causes.{HasCause}
use Rattle.flow_outputs.specs.Outputs.{file_from, Makes}
use Rattle.flow_outputs.proofs.outputs.commit_all.Given as goal

abbrev pub invariant-loop-output : goal.invariant-loop-output
invariant-loop-output g l =
    Makes (IsTrue g.F.Files.tells) (g.F.Files.holds l.fn.files) (g.F.Files.holds l.files) l.failed (map (λ o. file_from (g.F.Output.Sink.name o) (g.F.Output.Sink.held o)) l.yielded)
    × HasCause (g.F.Files.faults l.fn.files) (g.F.Files.faults l.files) (l.failed ≡ true)
    × (g.F.Files.lent l.files ≡ g.F.Files.lent l.fn.files - length l.yielded)
