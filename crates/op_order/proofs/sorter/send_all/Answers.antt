use Rattle.std.proofs.Common.{◌∷◌, [], map, ap, ◌∙◌, sym, subst, List}
use Rattle.streams.specs.Streams.{Out, sends}
use Rattle.streams.proofs.StreamLaws.{map-append}
use Rattle.op_base.specs.declared.fault.Fault.{Fault}
use Rattle.op_base.specs.Columns.{Row}
use Rattle.op_base.specs.Emits.{Adds}
use Rattle.op_base.proofs.Adding.{Adds-then}
use Rattle.op_order.specs.Marks.{rows_in}
use Rattle.op_order.proofs.Standing.{in-more}
use Rattle.op_order.proofs.sorter.send_all.Goals as goal

pub loop-row-preserved : goal.loop-row-preserved
loop-row-preserved c =
    let P : List (Out Row Fault) → Type 0 = λ outs. Adds c.args.emit.now c.send.new.self outs in
    subst P (sym (map-append (sends 0) (rows_in c.loop-row.yielded) (c.in-Some.row.row ∷ [])) ∙ ap (map (sends 0)) (sym (in-more c.loop-row.yielded c.in-Some.row)))
    (Adds-then _ _ _ _ _ c.loop-row.invariant c.in_ok-send.ensures.ok)
