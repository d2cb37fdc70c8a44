use Rattle.std.proofs.Common.{◌≡◌, drop}
use Rattle.osh_read.specs.Joining.{source}
use Rattle.osh_read.proofs.links.source.Given as goal

abbrev pub invariant-loop-output : goal.invariant-loop-output
invariant-loop-output l = source (drop l.output-index l.outs) l.name ≡ source l.outs l.name
