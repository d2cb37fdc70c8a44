use Rattle.std.proofs.Common.{◌∷◌, [], add-one, subst}
use Rattle.streams.specs.Streams.{sends}
use Rattle.op_base.specs.Columns.{Row}
use Rattle.op_base.specs.Emits.{Adds}
use Rattle.op_base.proofs.Adding.{Adds-none, Adds-then}
use Rattle.op_row.proofs.copying.send_copies.Goals as goal

pub loop-out-init : goal.loop-out-init
loop-out-init c = Adds-none _

pub loop-out-preserved : goal.loop-out-preserved
loop-out-preserved c =
    let P : Row → Type 0 = λ r. Adds c.loop-out.emit c.send.new.self (sends c.loop-out.out r ∷ []) in
    rw (add-one) (Adds-then _ _ _ _ _ c.loop-out.invariant (subst P c.in_ok-copy_row.ensures c.in_ok-send.ensures.ok))
