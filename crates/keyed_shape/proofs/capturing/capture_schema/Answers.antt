use Rattle.std.proofs.Common.{◌∙◌, ap, sym, subst}
use Rattle.std.specs.Prelude.{map}
use Rattle.ds_schema.specs.Schemas.{IsSchema}
use Rattle.keyed_shape.specs.Matched.{capture_fields}
use Rattle.shape_base.specs.Widths.{fields_cause}
use Rattle.shape_base.proofs.Making.{made_schema}
use Rattle.keyed_shape.proofs.Matched.{capture_each, capture_made}
use Rattle.keyed_shape.proofs.capturing.capture_schema.Goals as goal

pub from_vec-requires : goal.from_vec-requires
from_vec-requires c =
    let ins = map (λ s. s.now) c.args.ins.now in
    let made = capture_fields c.first.result.now in
    subst IsSchema (sym (c.in_ok-fields.ensures ∙ ap capture_fields c.as_slice.ensures.fields))
    (made_schema made (capture_each c.first.result.now c.as_slice.ensures.schema.each) (ap (λ fs. fields_cause (capture_fields fs)) c.first.ensures ∙ capture_made c.args.key.now c.args.values.now ins c.requires.sound))
