use Rattle.std.proofs.Common.{◌≡◌, ◌≤◌, ◌<◌, [], ℕ, cond, true, false, length, get_or}
use Rattle.std.specs.Prelude.{nat_lt}
use Rattle.list_run.specs.Held.{Puts, leaves, out_on, place_on}
use Rattle.list_run.proofs.run.send_outputs.Given as goal

abbrev pub invariant-loop-link : goal.invariant-loop-link
invariant-loop-link l = record {
  size : length l.outs.items ≡ length l.fn.outs.items;
  puts : Puts l.shaped l.nodes (λ k. cond (nat_lt k l.link) (leaves l.shaped l.op k) false) (out_on l.shaped l.fn.outs.items) l.fn.held l.held;
  rest : (k : ℕ) → l.link ≤ k → k < length l.shaped.flow.links → leaves l.shaped l.op k ≡ true → get_or l.outs.items (place_on l.shaped (length l.fn.outs.items) k) [] ≡ out_on l.shaped l.fn.outs.items k;
}
