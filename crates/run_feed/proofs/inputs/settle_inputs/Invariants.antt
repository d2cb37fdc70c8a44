use Rattle.std.proofs.Common.{◌≡◌, ◌-◌, ◌<◌}
use Rattle.ds_port.specs.Causes.{HasCause}
use Rattle.run_feed.specs.Inputs.{all_faults, number_of}
use Rattle.run_feed.proofs.inputs.settle_inputs.Given as goal

abbrev pub invariant-loop-input : goal.invariant-loop-input
invariant-loop-input g l = record {
  same : g.F.Files.holds l.files ≡ g.F.Files.holds l.fn.files;
  lent : g.F.Files.lent l.files ≡ g.F.Files.lent l.fn.files - number_of l.yielded;
  returned : HasCause (g.F.Files.faults l.fn.files) (g.F.Files.faults l.files) (0 < all_faults g.F.Input.Source.faults l.yielded);
}
