use Rattle.std.proofs.Common.{◌<◌, ◌==◌, ℕ, Bool, ap, sym, subst, ◌∙◌, length, get_or}
use Rattle.streams.proofs.StreamLaws.{eq_true, eq_false}
use Rattle.flow_graph.specs.Charts.{link_at, no_link, width_at}
use Rattle.list_run.proofs.Links.{none_more, one_more, same_at}
use Rattle.list_run.proofs.run.widths_into.Goals as goal
use Rattle.list_run.proofs.run.widths_into.Goals.{then-spec-op+in_ok-push, else-spec-op}

pub loop-link-preserved : goal.loop-link-preserved
loop-link-preserved c =
    let chart = c.args.shaped.now in
    let i = c.loop-link.link in
    let leads : ℕ → Bool = λ k. (link_at chart k).to == c.args.op in
    let links = c.as_slice-spec-items.ensures ∙ ap (λ f. f.links) c.flow.ensures in
    let there : i < length chart.flow.links = subst (λ ls. i < length ls) links c.loop-link-test.true in
    let at = c.spec-item.is ∙ ap (λ ls. get_or ls i c.spec-item.result) links ∙ same_at chart.flow.links i c.spec-item.result no_link there in
    elim c.if-spec-op.branch [
      | then-spec-op+in_ok-push w ↦
          ap (λ v. v.items) w.widths-is ∙ w.in_ok-push.ensures.items
          ∙ one_more (width_at chart) leads i c.loop-link.widths.items (length w.as_slice.result.now) c.loop-link.invariant (eq_true (link_at chart i).to c.args.op (ap (λ s. s.to) (sym at) ∙ w.if-spec-op.true)) (ap length (w.as_slice.ensures.fields ∙ w.schema.ensures))
      | else-spec-op w ↦
          ap (λ v. v.items) w.widths-is
          ∙ none_more (width_at chart) leads i c.loop-link.widths.items c.loop-link.invariant (eq_false (link_at chart i).to c.args.op (λ e. w.if-spec-op.false (ap (λ s. s.to) at ∙ e)))
    ]
