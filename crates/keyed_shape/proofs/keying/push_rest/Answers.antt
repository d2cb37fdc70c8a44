use Rattle.std.proofs.Common.{true, false, ap, append-nil, sym, ◌∷◌, [], ◌++◌, ◌∙◌}
use Rattle.keyed_shape.proofs.Others.{rest_next}
use Rattle.keyed_shape.proofs.keying.push_rest.Goals as goal
use Rattle.keyed_shape.proofs.keying.push_rest.Goals.{then-not-contains+in_ok-nullable_if+in_ok-push, else-not-contains}

pub loop-i-preserved : goal.loop-i-preserved
loop-i-preserved c =
    let old = c.loop-i.made.items in
    elim c.if-not-contains.branch [
      | then-not-contains+in_ok-nullable_if+in_ok-push w ↦ rest_next c.args.test c.args.fields.now c.args.columns.now c.loop-i.i c.index-fields-i.result false _ old _ c.loop-i-test.true c.index-fields-i.is (sym w.if-not-contains.true ∙ c.contains.ensures.value) c.loop-i.invariant
          (ap (λ v. v.items) w.made-is ∙ (w.in_ok-push.ensures.items ∙ ap (λ f. old ++ f ∷ []) w.in_ok-nullable_if.ensures))
      | else-not-contains w ↦ rest_next c.args.test c.args.fields.now c.args.columns.now c.loop-i.i c.index-fields-i.result true _ old _ c.loop-i-test.true c.index-fields-i.is (sym w.if-not-contains.false ∙ c.contains.ensures.value) c.loop-i.invariant
          (ap (λ v. v.items) w.made-is ∙ sym (append-nil old))
    ]
