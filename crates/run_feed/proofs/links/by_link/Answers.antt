use Rattle.std.proofs.Common.{◌≡◌, ◌<◌, ◌∙◌, ◌+◌, ◌-◌, ◌∷◌, [], ℕ, List, ap, sym, subst, arith, drop, take, get_or, length, length-append, length-drop}
use Rattle.std.specs.List.{list_any}
use Rattle.std.proofs.lemmas.List.{take_all}
use Rattle.flow_graph.specs.declared.flow.Flow.{Flow}
use Rattle.flow_graph.specs.declared.flow.LinkSpec.{LinkSpec}
use Rattle.run_feed.specs.Sources.{is_same, rows_on}
use Rattle.run_feed.proofs.Moving.{at_link, rest_more, taken_more}
use Rattle.run_feed.proofs.links.by_link.Goals as goal

pub loop-at-preserved : goal.loop-at-preserved
loop-at-preserved c =
    let chart = c.args.shaped.now in
    let reads = c.args.reads in
    let links = chart.flow.links in
    let i = c.loop-at.at in
    let link = c.index-links-at.result in
    let taken = c.in_ok-take_for.field-0 in
    let listed = c.as_slice-links.ensures ∙ ap (λ (f : Flow). f.links) c.flow.ensures in
    let within : i < length links = subst (λ (xs : List LinkSpec). i < length xs) listed c.loop-at-test.true in
    let item = at_link links i link within (subst (λ (xs : List LinkSpec). link ≡ get_or xs i link) listed c.index-links-at.is) in
    let behind = take_all (length links - (i + 1)) (drop (i + 1) links) (omega (arith, length-drop (i + 1) links)) in
    let any = c.is_shared-copies.ensures ∙ ap (λ (xs : List LinkSpec). list_any (is_same link) (take (length xs - (i + 1)) (drop (i + 1) xs))) listed ∙ ap (λ xs. list_any (is_same link) xs) behind in
    let pushed = c.in_ok-push.ensures.ok in
    record {
      count = ap length pushed ∙ omega (arith, length-append c.loop-at.sources (taken ∷ []), c.loop-at.invariant.count);
      each = subst (λ ss. (k : ℕ) → k < i + 1 → get_or ss k [] ≡ rows_on chart reads.rows reads.rejected k) (sym pushed)
          (taken_more chart reads.rows reads.rejected c.loop-at.rows.items c.loop-at.rejected.items c.loop-at.sources i link taken within c.loop-at.invariant.count c.loop-at.invariant.rest item c.in_ok-take_for.ensures.taken c.loop-at.invariant.each);
      rest = rest_more chart reads.rows reads.rejected c.loop-at.rows.items c.loop-at.rejected.items c.take_for.new.rows.items c.take_for.new.rejected.items i link c.is_shared-copies.result c.loop-at.invariant.rest any c.in_ok-take_for.ensures.rest;
    }
