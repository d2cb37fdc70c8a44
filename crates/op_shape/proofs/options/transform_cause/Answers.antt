use Rattle.std.proofs.Common.{◌≡◌, ap, sym, ◌∙◌}
use Rattle.op_shape.specs.Columns.{set_fields, sets_cause}
use Rattle.op_shape.specs.Exprs.{set_causes}
use Rattle.shape_base.specs.Widths.{fields_cause}
use Rattle.shape_base.proofs.Firsts.{first_three, or_else}
use Rattle.op_shape.proofs.options.transform_cause.Goals as goal

pub returns-in-Some : goal.returns-in-Some
returns-in-Some c =
    let names = sets_cause c.args.sets.now in
    let made = fields_cause (set_fields c.args.first.now c.args.sets.now) in
    sym (first_three (set_causes c.args.first.now c.args.sets.now) names made c.in_ok-why.field-0 c.in_ok-why.ensures ∙ ap (λ o. or_else o (or_else names made)) c.in-Some.is)

pub returns-in-Some-sets_cause : goal.returns-in-Some-sets_cause
returns-in-Some-sets_cause c =
    let names = sets_cause c.args.sets.now in
    let made = fields_cause (set_fields c.args.first.now c.args.sets.now) in
    sym (first_three (set_causes c.args.first.now c.args.sets.now) names made c.in_ok-why.field-0 c.in_ok-why.ensures
    ∙ (ap (λ o. or_else o (or_else names made)) c.in_default.is ∙ ap (λ o. or_else o made) (sym c.sets_cause.ensures ∙ c.in-Some-sets_cause.is)))

pub returns : goal.returns
returns c =
    let names = sets_cause c.args.sets.now in
    let made = fields_cause (set_fields c.args.first.now c.args.sets.now) in
    let found : c.fields_cause.result ≡ made = c.fields_cause.ensures ∙ ap fields_cause (c.as_slice-2.ensures.value ∙ (c.in_ok-made.ensures ∙ ap (λ fs. set_fields fs c.args.sets.now) c.as_slice.ensures.fields)) in
    found ∙ sym (first_three (set_causes c.args.first.now c.args.sets.now) names made c.in_ok-why.field-0 c.in_ok-why.ensures
    ∙ (ap (λ o. or_else o (or_else names made)) c.in_default.is ∙ ap (λ o. or_else o made) (sym c.sets_cause.ensures ∙ c.in_default-sets_cause.is)))
