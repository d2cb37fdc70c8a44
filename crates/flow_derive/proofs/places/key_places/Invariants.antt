use Rattle.std.proofs.Common.{◌≡◌, ◌++◌, drop, length}
use Rattle.std.specs.Prelude.{◌≤◌}
use Rattle.flow_derive.specs.Derive.{key_places}
use Rattle.flow_derive.proofs.places.key_places.Given as goal

abbrev pub invariant-loop-i : goal.invariant-loop-i
invariant-loop-i l = record {
  within : l.i ≤ length l.states;
  rest : l.found.items ++ key_places (drop l.i l.keys) l.heads (drop l.i l.states) ≡ key_places l.keys l.heads l.states;
}
