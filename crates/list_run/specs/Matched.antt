-- What joins and lookups emit for two lists.
use Rattle.std.specs.Prelude.{ℕ, List, map}
use Rattle.streams.specs.Streams.{Out, sends}
use Rattle.op_base.specs.declared.emit.Emit.{Emit}
use Rattle.op_base.specs.declared.fault.Fault.{Fault}
use Rattle.op_base.specs.declared.missing.Missing.{Missing}
use Rattle.op_base.specs.Columns.{Row}
use Rattle.op_base.specs.WholeLists.{HasEmitted}
use Rattle.op_join.specs.declared.kind.JoinKind.{JoinKind}
use Rattle.op_lookup.specs.Laws.{Finds}
use Rattle.flow_graph.specs.declared.parts.OpParts.{OpParts}
use Rattle.flow_graph.specs.Runs.{result_on}
use Rattle.flow_ops.specs.Keyed.{lookup_of}
use Rattle.flow_ops.specs.Kinds.{joined_by}
use Rattle.run_ports.specs.PortLists.{list_of}

-- what a join gives for these lists was emitted, and nothing else
abbrev pub Matches : JoinKind → OpParts → List ℕ → List (List Row) → Emit → Type 0
Matches k parts widths lists emit = HasEmitted emit (map (sends 0) (result_on (joined_by k parts widths) 0 0 lists))

-- what was emitted for these lists is what a lookup finds, before its faults have its number
pub record LooksUp (missing : Missing) (parts : OpParts) (main reference : ℕ) (lists : List (List Row)) (emit : Emit) : Type 0 where
  pub given : List (Out Row Fault)
  pub emitted : HasEmitted emit given
  pub finds : Finds (λ a. lookup_of 0 missing parts main reference) (list_of lists) given
