use Rattle.std.proofs.Common.{rules, ◌≡◌, ◌<◌, ◌+◌, ◌%◌, ◌∷◌, [], ◌∙◌, ap, sym, subst, length, ℕ, length-append, arith}
use Rattle.op_base.specs.Columns.{Row}
use Rattle.std.proofs.lemmas.Nat.{mod_below}
use Rattle.std.specs.Vec.Iter.{into_iter_items}
use Rattle.list_run.specs.Dealt.{dealt, turn_goes}
use Rattle.list_run.proofs.Ended.{had_all}
use Rattle.list_run.proofs.Dealing.{Dealt-more, Dealt-is, turn-next, turn_way}
use Rattle.list_run.proofs.lanes.round_robin.Goals as goal

pub loop-rows-preserved : goal.loop-rows-preserved
loop-rows-preserved c =
    let kept = c.loop-rows.invariant in
    record {
      below = subst (λ n. n < c.args.count) (sym c.next_turn-first.ensures) (mod_below (c.loop-rows.first + 1) c.args.count c.requires);
      turn = c.next_turn-first.ensures ∙ turn-next c.loop-rows.first 0 (length c.loop-rows.yielded) c.args.count (kept.turn ∙ ap (λ n. n % c.args.count) (omega arith)) ∙ ap (λ n. n % c.args.count) (omega (arith, length-append c.loop-rows.yielded (c.in-Some.rows ∷ [])));
      dealt = Dealt-more (λ p t r. (p + t) % c.args.count) (turn_goes c.loop-rows.first c.args.count) c.loop-rows.yielded c.in-Some.rows c.args.count c.loop-rows.lists.items _ (λ t r. turn_way c.loop-rows.first (length c.loop-rows.yielded) c.args.count t kept.turn) kept.dealt c.in_ok-deal_in_turn.ensures;
    }

pub returns : goal.returns
returns c =
    let gives : into_iter_items c.into_iter-rows-iterator.result ≡ c.args.sent = search rules in
    let all = had_all c.into_iter-rows-iterator.result c.args.sent c.loop-rows.yielded c.loop-rows.rows-iterator gives c.loop-rows.yielded_by c.next.result c.next.new.self c.in-None.is c.next.ensures.steps in
    let goes : ℕ → ℕ → Row → ℕ = λ p t r. (p + t) % c.args.count in
    c.from_vec.ensures ∙ Dealt-is goes c.loop-rows.yielded c.args.count c.loop-rows.lists.items c.loop-rows.invariant.dealt ∙ ap (dealt goes c.args.count) all
