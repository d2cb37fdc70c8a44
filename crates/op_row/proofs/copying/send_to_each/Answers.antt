use Rattle.std.proofs.Common.{List, subst}
use Rattle.streams.specs.Streams.{Out}
use Rattle.op_base.specs.declared.fault.Fault.{Fault}
use Rattle.op_base.specs.Columns.{Row}
use Rattle.op_base.specs.Emits.{Adds}
use Rattle.op_base.proofs.Adding.{Adds-then}
use Rattle.op_row.proofs.Copies.{to_last}
use Rattle.op_row.proofs.copying.send_to_each.Goals as goal

pub returns : goal.returns
returns c =
    let P : List (Out Row Fault) → Type 0 = λ outs. Adds c.args.emit.now c.send.new.self outs in
    subst P (to_last c.args.outs c.args.row c.if-outs-eq0.false) (Adds-then _ _ _ _ _ c.in_ok-send_copies.ensures c.in_ok-send.ensures.ok)
