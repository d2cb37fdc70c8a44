use Rattle.std.proofs.Common.{◌≡◌, None, true, not, ap, sym, ◌∙◌}
use Rattle.shape_base.specs.declared.fault.ShapeWhy.TheVariants as why
use Rattle.shape_base.specs.Causes.{cause_if, first_cause}
use Rattle.keyed_shape.specs.Keyed.{group_fields, result_causes}
use Rattle.shape_base.specs.Naming.{has_keys, key_cause}
use Rattle.shape_base.specs.Widths.{fields_cause}
use Rattle.shape_base.proofs.Firsts.{first_behind, or_else}
use Rattle.keyed_shape.proofs.grouping.group_cause.Goals as goal

pub returns-in-Some : goal.returns-in-Some
returns-in-Some c =
    let key = c.args.key.now in
    let results = c.args.results.now in
    let first = c.args.first.now in
    let made = fields_cause (group_fields key results first) in
    let has : has_keys first key ≡ true = sym (ap (λ fs. has_keys fs key) c.as_slice-fields.ensures.fields) ∙ (sym c.has_keys.ensures ∙ c.if-not-has_keys.false) in
    let none : key_cause key first ≡ None = ap (λ b. cause_if (not b) why.Field) has in
    sym (first_behind (key_cause key first) (result_causes results first) made none
    ∙ ap (λ o. or_else o made) (sym (ap (λ fs. first_cause (result_causes results fs)) c.as_slice-fields.ensures.fields) ∙ (sym c.results_cause.ensures ∙ c.in-Some.is)))

pub returns : goal.returns
returns c =
    let key = c.args.key.now in
    let results = c.args.results.now in
    let first = c.args.first.now in
    let made = fields_cause (group_fields key results first) in
    let has : has_keys first key ≡ true = sym (ap (λ fs. has_keys fs key) c.as_slice-fields.ensures.fields) ∙ (sym c.has_keys.ensures ∙ c.if-not-has_keys.false) in
    let none : key_cause key first ≡ None = ap (λ b. cause_if (not b) why.Field) has in
    let found : c.fields_cause.result ≡ made = c.fields_cause.ensures ∙ ap fields_cause (c.as_slice.ensures.value ∙ (c.in_ok-made.ensures ∙ ap (group_fields key results) c.as_slice-fields.ensures.fields)) in
    found ∙ sym (first_behind (key_cause key first) (result_causes results first) made none
    ∙ ap (λ o. or_else o made) (sym (ap (λ fs. first_cause (result_causes results fs)) c.as_slice-fields.ensures.fields) ∙ (sym c.results_cause.ensures ∙ c.in_default.is)))
