use Rattle.std.proofs.Common.{◌≡◌, drop}
use Rattle.op_shape.specs.Columns.{new_name}
use Rattle.op_shape.proofs.modifying.new_name.Given as goal

abbrev pub invariant-loop-new : goal.invariant-loop-new
invariant-loop-new l = new_name (drop l.new-index l.rename) l.name ≡ new_name l.rename l.name
