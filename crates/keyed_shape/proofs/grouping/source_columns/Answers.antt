use Rattle.std.proofs.Common.{Some, None, ap, append-nil, sym, ◌∷◌, [], ◌++◌, ◌∙◌, option_copied}
use Rattle.keyed_shape.proofs.Others.{source_next}
use Rattle.keyed_shape.proofs.grouping.source_columns.Goals as goal
use Rattle.keyed_shape.proofs.grouping.source_columns.Goals.{in-Some+in_ok-push, in_default}

pub loop-agg-preserved : goal.loop-agg-preserved
loop-agg-preserved c =
    let old = c.loop-agg.cols in
    elim c.match-source.branch [
      | in-Some+in_ok-push w ↦ source_next c.args.fields.now c.args.results.now c.loop-agg.agg-index c.agg-item.result (Some w.in-Some.old.now) old _ c.loop-agg-test.true c.agg-item.is (sym c.source.ensures ∙ ap option_copied w.in-Some.is) c.loop-agg.invariant
          (w.cols-is ∙ (w.in_ok-push.ensures.ok ∙ ap (λ n. old ++ n ∷ []) w.column.ensures))
      | in_default w ↦ source_next c.args.fields.now c.args.results.now c.loop-agg.agg-index c.agg-item.result None old _ c.loop-agg-test.true c.agg-item.is (sym c.source.ensures ∙ ap option_copied w.in_default.is) c.loop-agg.invariant
          (w.cols-is ∙ sym (append-nil old))
    ]
