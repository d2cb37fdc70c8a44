use Rattle.std.proofs.Common.{◌≡◌, map}
use Rattle.streams.specs.Streams.{whole}
use Rattle.run_ports.proofs.run.inputs_of.Given as goal

abbrev pub invariant-loop-list : goal.invariant-loop-list
invariant-loop-list l = l.inputs.items ≡ map whole l.yielded
