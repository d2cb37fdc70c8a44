use Rattle.std.proofs.Common.{◌<◌, ℕ, sym, subst, length, arith}
use Rattle.op_base.specs.Columns.{Row}
use Rattle.ds_place.specs.Places.{place_number}
use Rattle.list_run.specs.Dealt.{Deals}
use Rattle.list_run.proofs.Dealing.{Deals-more}
use Rattle.list_run.proofs.lanes.deal_by_place.Goals as goal

pub loop-row-preserved : goal.loop-row-preserved
loop-row-preserved c =
    let goes : ℕ → Row → ℕ = λ t r. place_number c.args.place.now r c.args.count in
    let below : c.partition_of-at.result < length c.loop-row.lists.items = let k = c.loop-row.invariant.count in omega (arith, k, c.partition_of-at.ensures.below, c.requires.count) in
    subst (Deals goes _ _) (sym c.in_ok-put_row.ensures)
    (Deals-more goes c.loop-row.yielded c.in-Some.row c.args.lists.now.items c.loop-row.lists.items c.partition_of-at.result (sym c.partition_of-at.ensures.place) below c.loop-row.invariant)
