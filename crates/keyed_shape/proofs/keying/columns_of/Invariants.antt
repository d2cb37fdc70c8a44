use Rattle.std.proofs.Common.{◌≡◌, take}
use Rattle.ds_schema.specs.Rows.{cols}
use Rattle.shape_base.specs.Naming.{key_columns}
use Rattle.keyed_shape.proofs.keying.columns_of.Given as goal

abbrev pub invariant-loop-name : goal.invariant-loop-name
invariant-loop-name l = l.found.items ≡ cols (key_columns l.fields (take l.name-index l.key))
