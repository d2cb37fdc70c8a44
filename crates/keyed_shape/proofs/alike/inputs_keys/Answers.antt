use Rattle.std.proofs.Common.{◌∙◌, ap}
use Rattle.shape_base.specs.Naming.{has_keys}
use Rattle.keyed_shape.proofs.Matched.{inputs_have}
use Rattle.keyed_shape.proofs.alike.inputs_keys.Goals as goal

pub key_list-requires-clause-named : goal.key_list-requires-clause-named
key_list-requires-clause-named c = ap (λ fields. has_keys fields c.args.key.now) c.as_slice.ensures.fields ∙ inputs_have (λ s. s.now) c.args.key.now c.args.ins.now c.loop-schema.schema-index c.schema-item.result c.requires.there c.loop-schema-test.true c.schema-item.is
