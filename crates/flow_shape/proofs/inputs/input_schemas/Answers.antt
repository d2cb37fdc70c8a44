use Rattle.std.proofs.Common.{◌≡◌, ◌∷◌, [], true, false, ap, append-nil, map, sym, ◌∙◌}
use Rattle.std.proofs.lemmas.Bool.{eq-eqb, ne_eqb}
use Rattle.std.proofs.lemmas.List.{map-append}
use Rattle.flow_shape.proofs.Entries.{below_next}
use Rattle.flow_shape.proofs.inputs.input_schemas.Goals as goal
use Rattle.flow_shape.proofs.inputs.input_schemas.Goals.{then-spec-op+in_ok-push, else-spec-op}

pub loop-link-preserved : goal.loop-link-preserved
loop-link-preserved c =
    let old = c.loop-link.ins.items in
    let within = rw c.as_slice-spec-items.ensures at c.loop-link-test.true in
    let at = rw c.as_slice-spec-items.ensures at c.spec-item.is in
    elim c.if-spec-op.branch [
      | then-spec-op+in_ok-push w ↦ below_next c.args.flow.now c.args.schemas.now c.args.op c.loop-link.link true c.spec-item.result w.index-schemas-link.result (map (λ s. s.now) old) _ within c.requires at (eq-eqb c.spec-item.result.to c.args.op w.if-spec-op.true) (λ z. w.index-schemas-link.is) c.loop-link.invariant
          (ap (λ v. map (λ s. s.now) v.items) w.ins-is ∙ (ap (map (λ s. s.now)) w.in_ok-push.ensures.items ∙ map-append (λ s. s.now) old _))
      | else-spec-op w ↦ below_next c.args.flow.now c.args.schemas.now c.args.op c.loop-link.link false c.spec-item.result [] (map (λ s. s.now) old) _ within c.requires at (ne_eqb c.spec-item.result.to c.args.op w.if-spec-op.false) (λ z. absurd cc) c.loop-link.invariant
          (ap (λ v. map (λ s. s.now) v.items) w.ins-is ∙ sym (append-nil (map (λ s. s.now) old)))
    ]
