use Rattle.std.proofs.Common.{true, false, not, ap, append-nil, sym, ◌∙◌}
use Rattle.op_shape.proofs.Keeping.{left_next}
use Rattle.op_shape.proofs.modifying.left_columns.Goals as goal
use Rattle.op_shape.proofs.modifying.left_columns.Goals.{then-not-is_among+in_ok-push, else-not-is_among}

pub loop-i-preserved : goal.loop-i-preserved
loop-i-preserved c = elim c.if-not-is_among.branch [
  | then-not-is_among+in_ok-push w ↦
      w.cols-is ∙ (w.in_ok-push.ensures.ok
      ∙ left_next c.args.drop.now c.args.fields.now c.loop-i.i c.index-fields-i.result c.loop-i.cols true c.loop-i-test.true c.index-fields-i.is (ap not (sym c.is_among.ensures ∙ w.if-not-is_among.true)) c.loop-i.invariant)
  | else-not-is_among w ↦
      w.cols-is ∙ (sym (append-nil c.loop-i.cols)
      ∙ left_next c.args.drop.now c.args.fields.now c.loop-i.i c.index-fields-i.result c.loop-i.cols false c.loop-i-test.true c.index-fields-i.is (ap not (sym c.is_among.ensures ∙ w.if-not-is_among.false)) c.loop-i.invariant)
]
