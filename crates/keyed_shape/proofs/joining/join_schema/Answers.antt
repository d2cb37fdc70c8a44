use Rattle.std.proofs.Common.{ap₂, subst, sym, ◌∙◌}
use Rattle.ds_schema.specs.Schemas.{IsSchema}
use Rattle.keyed_shape.specs.Keyed.{join_fields}
use Rattle.keyed_shape.proofs.Both.{are_both, both_made}
use Rattle.keyed_shape.proofs.Joined.{join_each}
use Rattle.shape_base.proofs.Making.{made_schema}
use Rattle.keyed_shape.proofs.joining.join_schema.Goals as goal

pub from_vec-requires : goal.from_vec-requires
from_vec-requires c =
    let key = c.args.key.now in
    let lost = c.args.lost in
    let left = c.args.left.now in
    let right = c.args.right.now in
    let made = join_fields lost.left lost.right key left right in
    subst IsSchema (sym (c.in_ok-fields.ensures ∙ ap₂ (join_fields lost.left lost.right key) c.as_slice.ensures.fields c.as_slice-2.ensures.fields))
    (made_schema made (join_each lost.left lost.right key left right (are_both key left right _ c.requires) c.as_slice.ensures.schema.each c.as_slice-2.ensures.schema.each) (both_made key left right made c.requires))
