use Rattle.std.proofs.Common.{ap₂, subst, sym, ◌∙◌}
use Rattle.ds_schema.specs.Schemas.{IsSchema}
use Rattle.keyed_shape.specs.Keyed.{lookup_fields}
use Rattle.keyed_shape.proofs.Both.{both_made}
use Rattle.keyed_shape.proofs.Joined.{lookup_each}
use Rattle.shape_base.proofs.Making.{made_schema}
use Rattle.keyed_shape.proofs.looking.lookup_schema.Goals as goal

pub from_vec-requires : goal.from_vec-requires
from_vec-requires c =
    let key = c.args.key.now in
    let missing = c.args.missing in
    let main = c.args.main.now in
    let reference = c.args.reference.now in
    let made = lookup_fields key missing main reference in
    subst IsSchema (sym (c.in_ok-fields.ensures ∙ ap₂ (lookup_fields key missing) c.as_slice.ensures.fields c.as_slice-2.ensures.fields))
    (made_schema made (lookup_each key missing main reference c.as_slice.ensures.schema.each c.as_slice-2.ensures.schema.each) (both_made key main reference made c.requires))
