use Rattle.std.proofs.Common.{rules, ◌≡◌, ◌∙◌, ℕ, ap, sym, refl, subst, length, All}
use Rattle.std.specs.Vec.Iter.{into_iter_items}
use Rattle.op_base.specs.Columns.{Row}
use Rattle.ds_place.specs.Places.{place_number}
use Rattle.list_run.specs.Dealt.{dealt}
use Rattle.list_run.specs.Routed.{SuitsPlace}
use Rattle.list_run.proofs.Ended.{had_all, is_next}
use Rattle.list_run.proofs.Dealing.{Dealt-more, Dealt-is}
use Rattle.list_run.proofs.lanes.by_place.Goals as goal

pub deal_by_place-requires-clause-rows : goal.deal_by_place-requires-clause-rows
deal_by_place-requires-clause-rows c =
    let gives : into_iter_items c.into_iter-rows-iterator.result ≡ c.args.sent = search rules in
    let here = is_next c.into_iter-rows-iterator.result c.args.sent c.loop-rows.yielded c.loop-rows.rows-iterator gives c.loop-rows.yielded_by c.next.result c.next.new.self c.in-Some.rows c.in-Some.is c.next.ensures.steps in
    subst (All (SuitsPlace c.args.place.now)) (sym here.1) (c.requires.rows (length c.loop-rows.yielded) c.in-Some.rows here.0)

pub loop-rows-preserved : goal.loop-rows-preserved
loop-rows-preserved c =
    let goes : ℕ → Row → ℕ = λ t r. place_number c.args.place.now r c.args.count in
    Dealt-more (λ p. goes) goes c.loop-rows.yielded c.in-Some.rows c.args.count c.loop-rows.lists.items _ (λ t r. refl) c.loop-rows.invariant c.in_ok-deal_by_place.ensures

pub returns : goal.returns
returns c =
    let gives : into_iter_items c.into_iter-rows-iterator.result ≡ c.args.sent = search rules in
    let all = had_all c.into_iter-rows-iterator.result c.args.sent c.loop-rows.yielded c.loop-rows.rows-iterator gives c.loop-rows.yielded_by c.next.result c.next.new.self c.in-None.is c.next.ensures.steps in
    let goes : ℕ → ℕ → Row → ℕ = λ p t r. place_number c.args.place.now r c.args.count in
    c.from_vec.ensures ∙ Dealt-is goes c.loop-rows.yielded c.args.count c.loop-rows.lists.items c.loop-rows.invariant ∙ ap (dealt goes c.args.count) all
