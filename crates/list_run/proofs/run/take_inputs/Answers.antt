use Rattle.std.proofs.Common.{◌≡◌, ◌<◌, ◌==◌, [], ℕ, Bool, List, ap, sym, subst, ◌∙◌, length, get_or, arith}
use Rattle.std.proofs.lemmas.List.{get_or-set_other, length-set}
use Rattle.streams.proofs.StreamLaws.{eq_true, eq_false}
use Rattle.op_base.specs.Columns.{Row}
use Rattle.flow_graph.specs.Charts.{link_at, no_link}
use Rattle.list_run.proofs.Links.{none_more, one_more, same_at}
use Rattle.list_run.proofs.run.take_inputs.Goals as goal
use Rattle.list_run.proofs.run.take_inputs.Goals.{then-spec-op+in_ok-push, else-spec-op}

pub loop-link-preserved : goal.loop-link-preserved
loop-link-preserved c =
    let chart = c.args.shaped.now in
    let i = c.loop-link.link in
    let kept = c.loop-link.invariant in
    let olds = c.args.waiting.now.items in
    let waiting = c.loop-link.waiting.items in
    let waits : ℕ → List (List Row) = λ k. get_or olds k [] in
    let leads : ℕ → Bool = λ k. (link_at chart k).to == c.args.op in
    let links = c.as_slice-spec-items.ensures ∙ ap (λ f. f.links) c.flow.ensures in
    let there : i < length chart.flow.links = subst (λ ls. i < length ls) links c.loop-link-test.true in
    let at = c.spec-item.is ∙ ap (λ ls. get_or ls i c.spec-item.result) links ∙ same_at chart.flow.links i c.spec-item.result no_link there in
    elim c.if-spec-op.branch [
      | then-spec-op+in_ok-push w ↦
          let leading : (link_at chart i).to ≡ c.args.op = ap (λ s. s.to) (sym at) ∙ w.if-spec-op.true in
          let now = ap (λ v. v.items) w.waiting-is ∙ w.take_at.ensures.rest in
          record {
            inputs = ap (λ v. v.items) w.inputs-is ∙ w.in_ok-push.ensures.items ∙ one_more waits leads i c.loop-link.inputs.items w.take_at.result kept.inputs (eq_true (link_at chart i).to c.args.op leading) (w.take_at.ensures.list ∙ kept.rest i (omega arith));
            rest = λ k m. ap (λ (ls : List (List (List Row))). get_or ls k []) now ∙ get_or-set_other waiting i k [] [] (λ e. absurd (omega (arith, m, e))) ∙ kept.rest k (omega (arith, m));
            others = λ k n. ap (λ (ls : List (List (List Row))). get_or ls k []) now ∙ get_or-set_other waiting i k [] [] (λ e. n (ap (λ j. (link_at chart j).to) e ∙ leading)) ∙ kept.others k n;
            count = ap length now ∙ length-set waiting i [] ∙ kept.count;
          }
      | else-spec-op w ↦
          let now = ap (λ v. v.items) w.waiting-is in
          record {
            inputs = ap (λ v. v.items) w.inputs-is ∙ none_more waits leads i c.loop-link.inputs.items kept.inputs (eq_false (link_at chart i).to c.args.op (λ e. w.if-spec-op.false (ap (λ s. s.to) at ∙ e)));
            rest = λ k m. ap (λ (ls : List (List (List Row))). get_or ls k []) now ∙ kept.rest k (omega (arith, m));
            others = λ k n. ap (λ (ls : List (List (List Row))). get_or ls k []) now ∙ kept.others k n;
            count = ap length now ∙ kept.count;
          }
    ]
