use Rattle.std.proofs.Common.{◌≡◌, ◌+◌, true, false, sym, ap, ◌∙◌, [], ◌∷◌, ◌++◌, append-nil}
use Rattle.op_lookup.specs.Looked.{others_of}
use Rattle.op_lookup.proofs.Finding.{others_of-more}
use Rattle.op_lookup.proofs.columns.others_of.Goals as goal
use Rattle.op_lookup.proofs.columns.others_of.Goals.{then-not-contains+in_ok-push, else-not-contains}

pub loop-col-preserved : goal.loop-col-preserved
loop-col-preserved c =
    let key = c.args.key.now in
    let n = c.loop-col.col-counter in
    elim c.if-not-contains.branch [
      | then-not-contains+in_ok-push w ↦ let more : others_of key (n + 1) ≡ others_of key n ++ n ∷ [] = others_of-more key n false (sym w.if-not-contains.true ∙ c.contains.ensures.value) in ap (λ v. v.items) w.others-is ∙ w.in_ok-push.ensures.items ∙ ap (λ t. t ++ n ∷ []) c.loop-col.invariant ∙ sym more
      | else-not-contains w ↦ let more : others_of key (n + 1) ≡ others_of key n ++ [] = others_of-more key n true (sym w.if-not-contains.false ∙ c.contains.ensures.value) in ap (λ v. v.items) w.others-is ∙ c.loop-col.invariant ∙ sym (append-nil (others_of key n)) ∙ sym more
    ]
