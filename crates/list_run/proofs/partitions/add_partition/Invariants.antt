use Rattle.std.proofs.Common.{◌≡◌, ◌<◌, ◌≤◌, ◌++◌, ◌∷◌, [], ℕ, length, get_or}
use Rattle.list_run.proofs.partitions.add_partition.Given as goal

abbrev pub invariant-loop-at : goal.invariant-loop-at
invariant-loop-at l = record {
  size : length l.outs.items ≡ length l.fn.outs.items;
  had : (q : ℕ) → q < l.at → get_or l.outs.items q [] ≡ get_or l.fn.outs.items q [] ++ get_or l.fn.lists.items q [] ∷ [];
  left : (q : ℕ) → l.at ≤ q → get_or l.outs.items q [] ≡ get_or l.fn.outs.items q [];
  rest : (q : ℕ) → l.at ≤ q → get_or l.lists.items q [] ≡ get_or l.fn.lists.items q [];
}
