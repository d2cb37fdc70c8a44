use Rattle.std.proofs.Common.{suc, map, ap, ap₂, ◌∙◌}
use Rattle.streams.specs.Streams.{sends}
use Rattle.op_base.specs.Meanings.{input}
use Rattle.op_match.specs.Merged.{left_over}
use Rattle.op_match.proofs.Merging.{rejects_more}
use Rattle.op_match.proofs.Pieces.{one_more}
use Rattle.op_match.proofs.layout.Layout.send_rejects.Goals as goal

pub loop-i-preserved : goal.loop-i-preserved
loop-i-preserved c =
    rejects_more (λ i. map (sends (suc i)) (left_over c.args.has_master (input i c.args.updates.now))) _ _ _ c.loop-i.i _ c.loop-i.invariant c.in_ok-send_rows.ensures
    (ap₂ (λ n xs. map (sends n) xs) (one_more c.loop-i.i) (c.left_over-rows.ensures ∙ ap (left_over c.args.has_master) c.input.ensures))
