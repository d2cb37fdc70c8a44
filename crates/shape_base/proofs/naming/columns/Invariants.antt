use Rattle.std.proofs.Common.{◌≡◌, take}
use Rattle.shape_base.specs.Naming.{columns}
use Rattle.shape_base.proofs.naming.columns.Given as goal

abbrev pub invariant-loop-name : goal.invariant-loop-name
invariant-loop-name l = l.cols ≡ columns l.fields (take l.name-index l.names)
