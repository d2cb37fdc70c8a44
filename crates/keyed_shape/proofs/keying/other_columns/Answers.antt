use Rattle.std.proofs.Common.{true, false, ap, append-nil, sym, ◌==◌, ◌∙◌}
use Rattle.std.specs.List.{list_any}
use Rattle.keyed_shape.proofs.Others.{other_next}
use Rattle.keyed_shape.proofs.keying.other_columns.Goals as goal
use Rattle.keyed_shape.proofs.keying.other_columns.Goals.{then-not-contains+in_ok-push, else-not-contains}

pub loop-i-preserved : goal.loop-i-preserved
loop-i-preserved c =
    let columns = c.in_ok-columns.columns.items in
    let i = c.loop-i.i-counter in
    let old = c.loop-i.found in
    let here = ap (λ cs. list_any (λ y. y == i) cs) c.deref.ensures.value in
    elim c.if-not-contains.branch [
      | then-not-contains+in_ok-push w ↦ other_next columns i false old _ (sym w.if-not-contains.true ∙ (c.contains.ensures.value ∙ here)) c.loop-i.invariant (w.found-is ∙ w.in_ok-push.ensures.ok)
      | else-not-contains w ↦ other_next columns i true old _ (sym w.if-not-contains.false ∙ (c.contains.ensures.value ∙ here)) c.loop-i.invariant (w.found-is ∙ sym (append-nil old))
    ]
