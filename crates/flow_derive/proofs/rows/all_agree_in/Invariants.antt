use Rattle.std.proofs.Common.{◌≡◌, drop, length}
use Rattle.std.specs.Prelude.{◌≤◌}
use Rattle.flow_derive.specs.Derive.{all_agree_in}
use Rattle.flow_derive.proofs.rows.all_agree_in.Given as goal

abbrev pub invariant-loop-i : goal.invariant-loop-i
invariant-loop-i l = record {
  within : l.i ≤ length l.states;
  rest : all_agree_in l.keys l.states ≡ all_agree_in (drop l.i l.keys) (drop l.i l.states);
}
