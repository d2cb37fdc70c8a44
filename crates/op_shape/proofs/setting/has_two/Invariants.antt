use Rattle.std.proofs.Common.{◌≡◌, drop}
use Rattle.op_shape.specs.Columns.{set_names, stand_twice}
use Rattle.op_shape.proofs.setting.has_two.Given as goal

abbrev pub invariant-loop-i : goal.invariant-loop-i
invariant-loop-i l = stand_twice (set_names (drop l.i l.sets)) ≡ stand_twice (set_names l.sets)
