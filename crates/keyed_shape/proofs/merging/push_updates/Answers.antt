use Rattle.std.proofs.Common.{◌∙◌, ap, sym, subst, map, ◌++◌}
use Rattle.std.specs.List.{AllByRecursion}
use Rattle.ds_schema.specs.Schemas.{IsField}
use Rattle.op_base.proofs.All.{all_append}
use Rattle.keyed_shape.specs.Keyed.{nullable_if, other_fields}
use Rattle.keyed_shape.proofs.Joined.{others_each}
use Rattle.keyed_shape.proofs.Matched.{updates_next}
use Rattle.keyed_shape.proofs.merging.push_updates.Goals as goal

pub loop-schema-preserved : goal.loop-schema-preserved
loop-schema-preserved c =
    let old = c.loop-schema.made.items in
    record {
      made = updates_next (λ fields. map (nullable_if c.args.test) (other_fields c.args.key.now fields)) (λ s. s.now) c.args.updates.now c.loop-schema.schema-index c.schema-item.result c.args.made.now.items old _ c.loop-schema-test.true c.schema-item.is c.loop-schema.invariant.made
          (c.in_ok-push_others.ensures ∙ ap (λ fields. old ++ map (nullable_if c.args.test) (other_fields c.args.key.now fields)) c.as_slice.ensures.fields);
      each = λ a. subst (AllByRecursion IsField) (sym c.in_ok-push_others.ensures)
          (all_append IsField _ _ (c.loop-schema.invariant.each a) (others_each c.args.test c.args.key.now c.as_slice.result.now (subst (AllByRecursion IsField) (sym c.as_slice.ensures.fields) c.as_slice.ensures.schema.each)));
    }
