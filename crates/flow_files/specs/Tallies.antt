-- Tallies of bags of faults: how many there are, and the least.
use Rattle.std.specs.Prelude.{◌≡◌, ◌≢◌, List, [], ◌++◌, length, Option, Some, None}
use Rattle.std.specs.List.{AllByRecursion, Contains}
use Rattle.std.specs.declared.cmp.Ordering.TheVariants.{Greater}
use Rattle.op_base.specs.declared.fault.Fault.{Fault}
use Rattle.op_base.specs.Emits.{counted}
use Rattle.op_base.specs.Faults.{fault_cmp}
use Rattle.flow_files.specs.declared.tally.Tally.{Tally}

-- one of the faults, and none is below it
pub record IsLeast (least : Fault) (faults : List Fault) : Type 0 where
  pub among : Contains faults least
  pub none_below : AllByRecursion (λ f. fault_cmp least f ≢ Greater) faults

abbrev pub IsLeastOf : Option Fault → List Fault → Type 0
IsLeastOf None faults = faults ≡ []
IsLeastOf (Some least) faults = IsLeast least faults

-- the number of these faults, as far as they are counted, and their least; their order means nothing
pub record Tallies (faults : List Fault) (tally : Tally) : Type 0 where
  pub number : tally.faults ≡ counted 0 (length faults)
  pub least : IsLeastOf tally.least faults

-- whatever was tallied, these faults are tallied too
abbrev pub Grows : Tally → Tally → List Fault → Type 0
Grows old new more = (faults : List Fault) → Tallies faults old → Tallies (faults ++ more) new
