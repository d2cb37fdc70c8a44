use Rattle.std.proofs.Common.{sym, ◌∙◌, ◌∷◌, [], map}
use Rattle.shape_base.proofs.Firsts.{none_head}
use Rattle.keyed_shape.specs.Matched.{inputs_cause, schemas_cause}
use Rattle.flow_tests.proofs.matched_shapes.key_columns.Goals as goal

pub inputs_keys-requires-clause-there : goal.inputs_keys-requires-clause-there
inputs_keys-requires-clause-there c =
    let key = c.as_slice-keys.result.now in
    let ins = map (λ s. s.now) c.args.ins.now in
    (none_head (inputs_cause key ins) (schemas_cause ins ∷ []) (sym c.funnel_cause.ensures ∙ c.in-None.is)).0
