use Rattle.std.proofs.Common.{◌≡◌, drop}
use Rattle.op_shape.specs.Columns.{set_fields}
use Rattle.op_shape.proofs.setting.set_fields.Given as goal

abbrev pub invariant-loop-set : goal.invariant-loop-set
invariant-loop-set l = set_fields l.made.items (drop l.set-index l.sets) ≡ set_fields l.fn.fields l.sets
