use Rattle.std.proofs.Common.{sym, ap, ◌∙◌, Ok}
use Rattle.std.proofs.lemmas.List.{take_rest}
use Rattle.ds_text.proofs.Fronts.{quoted_at}
use Rattle.ds_text.proofs.cell.quoted_value.Goals as goal

pub returns-in-Ok-clause-found : goal.returns-in-Ok-clause-found
returns-in-Ok-clause-found c =
    let inside = c.args.inside.now in
    let len = c.in-Ok-Some.len in
    let ends = rw (take_rest inside len) at c.ends_field.ensures in
    quoted_at _ _ c.args.field.now _ _ _ (rw c.as_slice.ensures (c.in-Ok-Some.ensures.some len (ap Ok c.in-Ok-Some.field-0-is))) (sym ends ∙ c.if-not-ends_field.false) (rw c.in-Ok-Some.field-0-is at c.in-Ok-Some.ensures.within) c.in-Ok.ensures.found
