use Rattle.std.proofs.Common.{◌≡◌, ◌++◌, drop, length}
use Rattle.std.specs.Prelude.{◌≤◌}
use Rattle.op_base.specs.Columns.{pairs_of}
use Rattle.flow_derive.proofs.carry.pairs_of.Given as goal

abbrev pub invariant-loop-i : goal.invariant-loop-i
invariant-loop-i l = record {
  within : l.i ≤ length l.others;
  rest : l.pairs.items ++ pairs_of (drop l.i l.columns) (drop l.i l.others) ≡ pairs_of l.columns l.others;
}
