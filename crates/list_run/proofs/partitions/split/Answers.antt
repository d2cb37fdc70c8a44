use Rattle.std.proofs.Common.{rules, ◌≡◌, ◌<◌, ◌∙◌, sym, ap, subst, length}
use Rattle.std.specs.Vec.Iter.{into_iter_items}
use Rattle.std.proofs.lemmas.List.{length-set}
use Rattle.op_base.specs.declared.emit.Sent.{Sent}
use Rattle.list_run.proofs.Ended.{is_next}
use Rattle.list_run.proofs.Splitting.{row_dealt}
use Rattle.list_run.proofs.partitions.split.Goals as goal

pub loop-one-preserved : goal.loop-one-preserved
loop-one-preserved c =
    let kept = c.loop-one.invariant in
    let gives : into_iter_items c.into_iter-one-iterator.result ≡ c.args.sent = search rules in
    let here = is_next c.into_iter-one-iterator.result c.args.sent c.loop-one.yielded c.loop-one.one-iterator gives c.loop-one.yielded_by c.next.result c.next.new.self c.in-Some.one c.in-Some.is c.next.ensures.steps in
    let low = subst (λ (s : Sent). s.port < length c.args.lists.now.items) (sym here.1) (c.requires (length c.loop-one.yielded) c.in-Some.one here.0) in
    record {
      size = ap length c.in_ok-put_row.ensures ∙ length-set c.loop-one.lists.items c.in-Some.one.port _ ∙ kept.size;
      each = λ q m. row_dealt c.args.lists.now.items c.loop-one.lists.items _ c.loop-one.yielded c.in-Some.one (subst (λ n. c.in-Some.one.port < n) (sym kept.size) low) c.in_ok-put_row.ensures q (kept.each q m);
    }
