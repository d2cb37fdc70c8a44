use Rattle.std.proofs.Common.{ap, subst, sym, ◌∙◌}
use Rattle.ds_schema.specs.Schemas.{IsSchema}
use Rattle.op_shape.specs.Columns.{set_fields}
use Rattle.shape_base.proofs.Making.{made_schema}
use Rattle.op_shape.proofs.Making.{set_each}
use Rattle.op_shape.proofs.outputs.set_schema.Goals as goal

pub from_vec-requires : goal.from_vec-requires
from_vec-requires c =
    let sets = c.args.sets.now in
    let first = c.args.first.now in
    subst IsSchema (sym (c.in_ok-fields.ensures ∙ ap (λ fs. set_fields fs sets) c.as_slice.ensures.fields))
    (made_schema (set_fields first sets) (set_each sets first c.requires.stand c.as_slice.ensures.schema.each) c.requires.sound)
