use Rattle.keyed_shape.proofs.Others.{key_there}
use Rattle.keyed_shape.proofs.grouping.key_fields.Goals as goal

pub field_named-requires : goal.field_named-requires
field_named-requires c = key_there c.args.fields.now c.args.key.now c.loop-name.name-index c.loop-name-item.result c.requires c.loop-name-test.true c.loop-name-item.is
