use Rattle.std.proofs.Common.{◌≡◌, ◌≤◌, ◌∷◌, [], ℕ, cond, false, length, get_or}
use Rattle.std.specs.Prelude.{nat_lt}
use Rattle.list_run.specs.Held.{Puts, leaves}
use Rattle.list_run.proofs.run.send_sources.Given as goal

abbrev pub invariant-loop-link : goal.invariant-loop-link
invariant-loop-link l = record {
  puts : Puts l.shaped l.nodes (λ k. cond (nat_lt k l.link) (leaves l.shaped l.op k) false) (λ k. get_or l.fn.sources.items k [] ∷ []) l.fn.held l.held;
  rest : (k : ℕ) → l.link ≤ k → get_or l.sources.items k [] ≡ get_or l.fn.sources.items k [];
  kept : (k : ℕ) → leaves l.shaped l.op k ≡ false → get_or l.sources.items k [] ≡ get_or l.fn.sources.items k [];
  count : length l.sources.items ≡ length l.fn.sources.items;
}
