use Rattle.std.proofs.Common.{◌-◌, length}
use Rattle.ds_text.proofs.Unquoting.{Taken}
use Rattle.ds_text.proofs.cell.unquote.Given as goal

abbrev pub invariant-loop-len : goal.invariant-loop-len
invariant-loop-len l = Taken l.bytes l.into l.at

abbrev pub decreases-loop-len : goal.decreases-loop-len
decreases-loop-len l = length l.bytes - l.at
