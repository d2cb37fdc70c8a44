use Rattle.std.proofs.Common.{ap, ◌∙◌}
use Rattle.op_base.specs.Columns.{no_row}
use Rattle.op_join.specs.Waiting.{meant, left_row}
use Rattle.op_join.proofs.Pieces.{sent_next}
use Rattle.op_join.proofs.layout.Layout.send_lefts.Goals as goal

pub loop-a-preserved : goal.loop-a-preserved
loop-a-preserved c =
    sent_next (left_row (meant c.args.self.now) no_row) _ _ _ c.args.lefts.now c.loop-a.a-index c.a-item.result _ c.loop-a-test.true c.a-item.is c.loop-a.invariant
    (c.in_ok-left_row.ensures ∙ ap (λ m. left_row (meant c.args.self.now) m c.a-item.result) (c.from_vec-missing.ensures ∙ c.new.ensures.items)) c.in_ok-send.ensures.ok
