-- The order of faults: by operator, then by kind, place and bytes.
use Rattle.std.specs.Prelude.{ℕ}
use Rattle.std.specs.Ordering.{ordering_then, nat_cmp}
use Rattle.std.specs.Cmp.Lexicographic.{slice_cmp}
use Rattle.std.specs.declared.cmp.Ordering.{Ordering}
use Rattle.op_base.specs.declared.fault.Fault.{Fault}
use Rattle.op_base.specs.declared.fault.FaultKind.{FaultKind}
use Rattle.op_base.specs.declared.fault.FaultKind.TheVariants.{BadRecord, Overflow, ZeroDivisor, NullUsed, TooLong, Missing, Unwritable, BadBlock, Misplaced, CountWrong, FileTooLong}

-- the place of a kind among the kinds
abbrev pub kind_number : FaultKind → ℕ
kind_number BadRecord = 0
kind_number Overflow = 1
kind_number ZeroDivisor = 2
kind_number NullUsed = 3
kind_number TooLong = 4
kind_number Missing = 5
kind_number Unwritable = 6
kind_number BadBlock = 7
kind_number Misplaced = 8
kind_number CountWrong = 9
kind_number FileTooLong = 10

abbrev pub fault_cmp : Fault → Fault → Ordering
fault_cmp f g = ordering_then (nat_cmp f.op g.op) (ordering_then (nat_cmp (kind_number f.kind) (kind_number g.kind)) (ordering_then (nat_cmp f.place g.place) (slice_cmp nat_cmp f.bytes g.bytes)))
