use Rattle.std.proofs.Common.{◌≡◌, ℕ, length, get_or, true, false}
use Rattle.flow_shape.specs.Links.{Reaches}
use Rattle.flow_shape.proofs.Marks.{unmarked}
use Rattle.flow_shape.proofs.cycle.reached.Given as goal

abbrev pub invariant-loop-k : goal.invariant-loop-k
invariant-loop-k l = record {
  len : length l.marks.items ≡ l.count;
  sound : (v : ℕ) → get_or l.marks.items v false ≡ true → Reaches l.links l.start v;
}

abbrev pub decreases-loop-k : goal.decreases-loop-k
decreases-loop-k l = unmarked l.marks.items
