use Rattle.std.proofs.Common.{◌≡◌, ◌≢◌, ◌≤◌, ◌==◌, [], ℕ, length, map, get_or, filter}
use Rattle.std.specs.List.{range_with_len}
use Rattle.flow_graph.specs.Charts.{link_at}
use Rattle.list_run.proofs.run.take_inputs.Given as goal

abbrev pub invariant-loop-link : goal.invariant-loop-link
invariant-loop-link l = record {
  inputs : l.inputs.items ≡ map (λ k. get_or l.fn.waiting.items k []) (filter (λ k. (link_at l.shaped k).to == l.op) (range_with_len 0 l.link));
  rest : (k : ℕ) → l.link ≤ k → get_or l.waiting.items k [] ≡ get_or l.fn.waiting.items k [];
  others : (k : ℕ) → (link_at l.shaped k).to ≢ l.op → get_or l.waiting.items k [] ≡ get_or l.fn.waiting.items k [];
  count : length l.waiting.items ≡ length l.fn.waiting.items;
}
