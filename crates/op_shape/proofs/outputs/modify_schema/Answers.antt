use Rattle.std.proofs.Common.{ap, subst, sym, ◌∙◌}
use Rattle.ds_schema.specs.Schemas.{IsSchema}
use Rattle.op_shape.specs.Columns.{modified_fields}
use Rattle.shape_base.proofs.Making.{made_schema}
use Rattle.op_shape.proofs.Making.{modified_each}
use Rattle.op_shape.proofs.outputs.modify_schema.Goals as goal

pub from_vec-requires : goal.from_vec-requires
from_vec-requires c =
    let keep = c.args.keep.now in
    let drop = c.args.drop.now in
    let rename = c.args.rename.now in
    let first = c.args.first.now in
    subst IsSchema (sym (c.in_ok-fields.ensures ∙ ap (modified_fields keep drop rename) c.as_slice.ensures.fields))
    (made_schema (modified_fields keep drop rename first) (modified_each keep drop rename first c.requires.there c.requires.stand c.as_slice.ensures.schema.each) c.requires.sound)
