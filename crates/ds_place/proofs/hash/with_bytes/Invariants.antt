use Rattle.std.proofs.Common.{◌≡◌, take}
use Rattle.ds_place.specs.Places.{hash_on}
use Rattle.ds_place.proofs.hash.with_bytes.Given as goal

abbrev pub invariant-loop-byte : goal.invariant-loop-byte
invariant-loop-byte l = l.hash ≡ hash_on l.fn.hash (take l.byte-index l.bytes)
