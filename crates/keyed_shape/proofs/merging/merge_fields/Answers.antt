use Rattle.std.proofs.Common.{sym, subst}
use Rattle.std.specs.List.{AllByRecursion}
use Rattle.ds_schema.specs.Schemas.{IsField}
use Rattle.keyed_shape.proofs.Matched.{masters_each}
use Rattle.keyed_shape.proofs.merging.merge_fields.Goals as goal

pub returns-clause-each : goal.returns-clause-each
returns-clause-each c = c.in_ok-push_updates.ensures.each (subst (AllByRecursion IsField) (sym c.in_ok-made.ensures)
    (masters_each c.args.key.now _ c.as_slice.result.now (subst (AllByRecursion IsField) (sym c.as_slice.ensures.fields) c.as_slice.ensures.schema.each)))
