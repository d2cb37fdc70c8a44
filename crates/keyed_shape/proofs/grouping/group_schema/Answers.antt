use Rattle.std.proofs.Common.{ap, subst, sym, ◌∙◌}
use Rattle.ds_schema.specs.Schemas.{IsSchema}
use Rattle.keyed_shape.specs.Keyed.{group_fields}
use Rattle.keyed_shape.proofs.Joined.{group_each, is_grouped}
use Rattle.shape_base.proofs.Making.{made_schema}
use Rattle.keyed_shape.proofs.grouping.group_schema.Goals as goal

pub from_vec-requires : goal.from_vec-requires
from_vec-requires c =
    let key = c.args.key.now in
    let results = c.args.results.now in
    let first = c.args.first.now in
    let grouped = is_grouped key results first c.requires.sound in
    subst IsSchema (sym (c.in_ok-fields.ensures ∙ ap (group_fields key results) c.as_slice.ensures.fields))
    (made_schema (group_fields key results first) (group_each key results first grouped c.requires.stand c.as_slice.ensures.schema.each) grouped.made)
