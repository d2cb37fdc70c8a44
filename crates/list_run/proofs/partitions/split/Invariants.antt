use Rattle.std.proofs.Common.{◌≡◌, ◌<◌, ◌++◌, [], ℕ, length, get_or}
use Rattle.list_run.specs.Worked.{sent_to}
use Rattle.list_run.proofs.partitions.split.Given as goal

abbrev pub invariant-loop-one : goal.invariant-loop-one
invariant-loop-one l = record {
  size : length l.lists.items ≡ length l.fn.lists.items;
  each : (q : ℕ) → q < length l.fn.lists.items → get_or l.lists.items q [] ≡ get_or l.fn.lists.items q [] ++ sent_to q l.yielded;
}
