use Rattle.std.proofs.Common.{◌≡◌, ◌<◌, [], ℕ, length, get_or}
use Rattle.flow_graph.specs.Runs.{slice}
use Rattle.list_run.specs.Made.{degree_of}
use Rattle.list_run.proofs.partitions.by_partition.Given as goal

abbrev pub invariant-loop-lists : goal.invariant-loop-lists
invariant-loop-lists l = record {
  size : length l.slices.items ≡ degree_of l.fn.inputs.items;
  each : (p : ℕ) → p < length l.slices.items → get_or l.slices.items p [] ≡ slice p l.yielded;
}
