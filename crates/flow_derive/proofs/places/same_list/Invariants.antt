use Rattle.std.proofs.Common.{◌≡◌, drop, length}
use Rattle.flow_derive.specs.Derive.{same_list}
use Rattle.flow_derive.proofs.places.same_list.Given as goal

abbrev pub invariant-loop-i : goal.invariant-loop-i
invariant-loop-i l = record {
  long : length l.columns ≡ length l.others;
  rest : same_list l.columns l.others ≡ same_list (drop l.i l.columns) (drop l.i l.others);
}
