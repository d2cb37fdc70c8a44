use Rattle.std.proofs.Common.{◌≡◌, ℕ, [], length, get_or, map}
use Rattle.std.specs.List.{flat_map}
use Rattle.list_run.specs.Found.{Grows, found_of}
use Rattle.list_run.specs.Made.{made_of}
use Rattle.list_run.specs.Worked.{outputs_of, place_of}
use Rattle.list_run.proofs.emitting.work_on_each.Given as goal

abbrev pub invariant-loop-lists : goal.invariant-loop-lists
invariant-loop-lists l = record {
  size : length l.outs.items ≡ outputs_of l.kind;
  made : (q : ℕ) → get_or l.outs.items (place_of (outputs_of l.kind) q) [] ≡ map (made_of l.op l.kind l.parts l.widths q) l.yielded;
  found : Grows l.fn.tally l.tally (flat_map (found_of l.op l.kind l.parts l.widths) l.yielded);
}
