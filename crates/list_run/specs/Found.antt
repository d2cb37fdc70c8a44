-- The faults that operators between imports and exports find: how many there are, and the least.
use Rattle.std.specs.Prelude.{◌≡◌, ℕ, List, ◌++◌, length, Option, Some, None}
use Rattle.std.specs.List.{AllByRecursion, flat_map, range_with_len}
use Rattle.op_base.specs.declared.fault.Fault.{Fault}
use Rattle.op_base.specs.Columns.{Row}
use Rattle.op_base.specs.Emits.{counted, least_of}
use Rattle.flow_graph.specs.declared.op_kind.OpKind.{OpKind}
use Rattle.flow_graph.specs.declared.parts.OpParts.{OpParts}
use Rattle.flow_graph.specs.RowRules.{at_op}
use Rattle.flow_graph.specs.Runs.{faults_on, slice}
use Rattle.flow_ops.specs.Kept.{if_between}
use Rattle.list_run.specs.declared.tally.Tally.{Tally}
use Rattle.list_run.specs.Made.{degree_of}
use Rattle.flow_ops.specs.Kinds.{op_by}

-- the number of these faults, as far as they are counted, and the least of them
pub record Tallies (faults : List Fault) (tally : Tally) : Type 0 where
  pub number : tally.faults ≡ counted 0 (length faults)
  pub least : tally.least ≡ least_of None faults

-- whatever was tallied, these faults are tallied behind it
abbrev pub Grows : Tally → Tally → List Fault → Type 0
Grows old new more = (faults : List Fault) → Tallies faults old → Tallies (faults ++ more) new

-- a fault, if there is one, as one of the operator with this number
abbrev pub at_op_if : ℕ → Option Fault → Option Fault
at_op_if o None = None
at_op_if o (Some f) = Some (at_op o f)

-- faults that have no operator's number yet
abbrev pub AreUnnumbered : List Fault → Type 0
AreUnnumbered faults = AllByRecursion (λ (f : Fault). f.op ≡ 0) faults

-- what the operator with the number o finds in the lists of a partition, by port
abbrev pub found_of : ℕ → OpKind → OpParts → List ℕ → List (List Row) → List Fault
found_of o k parts widths lists = faults_on (op_by o k parts widths) 0 lists

-- and in those of all partitions, where it is neither an import nor an export
abbrev pub found_by : ℕ → OpKind → OpParts → List ℕ → List (List (List Row)) → List Fault
found_by o k parts widths inputs = if_between k (flat_map (λ p. found_of o k parts widths (slice p inputs)) (range_with_len 0 (degree_of inputs)))
