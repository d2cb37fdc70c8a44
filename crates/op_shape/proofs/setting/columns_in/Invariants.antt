use Rattle.std.proofs.Common.{◌≡◌, take}
use Rattle.op_shape.specs.Columns.{set_names}
use Rattle.shape_base.specs.Naming.{columns}
use Rattle.op_shape.proofs.setting.columns_in.Given as goal

abbrev pub invariant-loop-set : goal.invariant-loop-set
invariant-loop-set l = l.cols ≡ columns l.made (set_names (take l.set-index l.sets))
