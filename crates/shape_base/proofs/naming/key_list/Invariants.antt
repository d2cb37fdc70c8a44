use Rattle.std.proofs.Common.{◌≡◌, take}
use Rattle.shape_base.specs.Naming.{key_columns}
use Rattle.shape_base.proofs.naming.key_list.Given as goal

abbrev pub invariant-loop-name : goal.invariant-loop-name
invariant-loop-name l = l.list.items ≡ key_columns l.fields (take l.name-index l.keys)
