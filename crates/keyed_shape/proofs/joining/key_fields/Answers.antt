use Rattle.keyed_shape.proofs.Others.{key_there}
use Rattle.keyed_shape.proofs.joining.key_fields.Goals as goal

pub joined_key-requires : goal.joined_key-requires
joined_key-requires c = key_there c.args.left.now c.args.key.now c.loop-name.name-index c.loop-name-item.result c.requires c.loop-name-test.true c.loop-name-item.is
