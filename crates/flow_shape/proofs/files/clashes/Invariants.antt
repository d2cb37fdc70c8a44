use Rattle.std.proofs.Common.{◌≡◌, ◌<◌, ℕ, true, get_or}
use Rattle.flow_graph.specs.Charts.{no_op}
use Rattle.flow_shape.specs.Files.{both_clash, written_name, outer_name}
use Rattle.flow_shape.proofs.files.clashes.Given as goal

abbrev pub invariant-loop-other : goal.invariant-loop-other
invariant-loop-other l = (j : ℕ) → j < l.other → (j ≡ l.op → ⊥) × (both_clash (written_name (get_or l.flow.ops l.op no_op).kind) (outer_name (get_or l.flow.ops j no_op).kind) ≡ true) → ⊥
