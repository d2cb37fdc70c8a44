use Rattle.std.proofs.Common.{rules, ap, ◌≡◌}
use Rattle.std.specs.Ordering.{is_lt}
use Rattle.std.proofs.lemmas.Fn.{always_returns_same}
use Rattle.std.proofs.lemmas.List.Sorted.{ranks_by}
use Rattle.op_order.specs.Marks.{marked_cmp}
use Rattle.op_order.proofs.SortLaws.{marked_total, sorted_rows}
use Rattle.op_order.proofs.marked.arrange.Goals as goal

pub returns : goal.returns
returns c =
    let total = marked_total c.args.keys.now in
    record {
      ok = sorted_rows c.args.keys.now c.args.rows.now.items _ c.requires
          (c.in_ok-sort_by.ensures.sorted (λ x y. is_lt (marked_cmp c.args.keys.now x y)) (ranks_by total (λ x. x)) (always_returns_same _ _ _ (λ a r f' k. let e : r ≡ marked_cmp c.args.keys.now a.0.now a.1.0.now = search rules in (ap is_lt e, search rules))))
          (c.in_ok-sort_by.ensures.stable (λ x y. is_lt (marked_cmp c.args.keys.now x y)) (ranks_by total (λ x. x)) (always_returns_same _ _ _ (λ a r f' k. let e : r ≡ marked_cmp c.args.keys.now a.0.now a.1.0.now = search rules in (ap is_lt e, search rules))));
    }
