use Rattle.std.proofs.Common.{◌≡◌, Err, ap}
use Rattle.ds_text.specs.declared.fault.RecordFault.TheVariants.{Bad}
use Rattle.ds_text.proofs.Partial.{item_more}
use Rattle.ds_text.proofs.FieldRows.{more_fields, no_field, ended, whole}
use Rattle.ds_text.proofs.fields.read_fields.Goals as goal

pub returns-then-not-more-clause-bad : goal.returns-then-not-more-clause-bad
returns-then-not-more-clause-bad c = λ _. ended _ _ _ _ _ c.loop-field-test.true (rw c.if-not-more.true at c.loop-field.invariant)

pub returns-in-Err-field_value-clause-bad : goal.returns-in-Err-field_value-clause-bad
returns-in-Err-field_value-clause-bad c = λ e.
    let same : c.in-Err-field_value.fault ≡ Bad = cc e in
    no_field _ _ _ _ _ _ _ c.requires.delimiter (item_more c.args.fields.now c.loop-field.field-index c.field-item.result c.loop-field-test.true c.field-item.is) (c.in-Err-field_value.ensures.bad (ap Err same))
    (rw c.if-not-more.false at c.loop-field.invariant)

pub loop-field-preserved : goal.loop-field-preserved
loop-field-preserved c = rw (c.behind-rest.ensures, c.in-Ok-push.ensures.items)
    (more_fields _ _ _ _ _ _ _ _ _ c.requires.delimiter (item_more c.args.fields.now c.loop-field.field-index c.field-item.result c.loop-field-test.true c.field-item.is) c.in-Ok-field_value.ensures.found
    (rw c.if-not-more.false at c.loop-field.invariant))

pub returns-clause-found : goal.returns-clause-found
returns-clause-found c = whole _ _ _ _ _ c.loop-field-test.false (rw c.if-more.false at c.loop-field.invariant)
