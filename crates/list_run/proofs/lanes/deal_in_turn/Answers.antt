use Rattle.std.proofs.Common.{◌<◌, ◌+◌, ◌%◌, ◌∷◌, [], ◌∙◌, ap, sym, subst, length, length-append, arith}
use Rattle.std.proofs.lemmas.Nat.{mod_below}
use Rattle.list_run.specs.Dealt.{Deals, turn_goes}
use Rattle.list_run.proofs.Dealing.{Deals-more, turn-next}
use Rattle.list_run.proofs.lanes.deal_in_turn.Goals as goal

pub loop-row-preserved : goal.loop-row-preserved
loop-row-preserved c =
    let kept = c.loop-row.invariant in
    record {
      below = subst (λ n. n < c.args.count) (sym c.next_turn-at.ensures) (mod_below (c.loop-row.at + 1) c.args.count (omega (arith, kept.below)));
      turn = c.next_turn-at.ensures ∙ turn-next c.loop-row.at c.args.first (length c.loop-row.yielded) c.args.count kept.turn ∙ ap (λ n. (c.args.first + n) % c.args.count) (sym (length-append c.loop-row.yielded (c.in-Some.row ∷ [])));
      dealt = subst (Deals (turn_goes c.args.first c.args.count) _ _) (sym c.in_ok-put_row.ensures)
          (Deals-more (turn_goes c.args.first c.args.count) c.loop-row.yielded c.in-Some.row c.args.lists.now.items c.loop-row.lists.items c.loop-row.at (sym kept.turn) (let k = kept.dealt.count in let b = kept.below in omega (arith, k, b, c.requires.count)) kept.dealt);
    }
