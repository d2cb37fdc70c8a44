use Rattle.std.proofs.Common.{◌≡◌, ◌++◌, take}
use Rattle.osh_ends.specs.Reports.{hexadecimal}
use Rattle.osh_ends.proofs.reports.put_hexadecimal.Given as goal

abbrev pub invariant-loop-byte : goal.invariant-loop-byte
invariant-loop-byte l = l.text ≡ l.fn.text ++ hexadecimal (take l.byte-index l.bytes)
