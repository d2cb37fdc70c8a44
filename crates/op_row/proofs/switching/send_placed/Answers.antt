use Rattle.std.proofs.Common.{List, subst}
use Rattle.streams.specs.Streams.{Out}
use Rattle.op_base.specs.declared.fault.Fault.{Fault}
use Rattle.op_base.specs.Columns.{Row}
use Rattle.op_base.specs.Emits.{Adds}
use Rattle.op_base.proofs.Adding.{Adds-none}
use Rattle.op_row.proofs.OneRow.{sent_case, sent_rejected, sent_nowhere, sent_fault}
use Rattle.op_row.proofs.switching.send_placed.Goals as goal

pub returns-in_ok-send-in-Case : goal.returns-in_ok-send-in-Case
returns-in_ok-send-in-Case c =
    let P : List (Out Row Fault) → Type 0 = λ outs. Adds c.args.emit.now c.send.new.self outs in
    subst P (sent_case c.args.cases c.in-Case.i c.args.place c.args.reject c.args.row c.in-Case.is c.requires) c.in_ok-send-in-Case.ensures.ok

pub returns-in_ok-send-in-Other : goal.returns-in_ok-send-in-Other
returns-in_ok-send-in-Other c =
    let P : List (Out Row Fault) → Type 0 = λ outs. Adds c.args.emit.now c.send-then-reject.new.self outs in
    subst P (sent_rejected c.args.cases c.args.place c.args.reject c.args.row c.in-Other.is c.if-reject.true) c.in_ok-send-in-Other.ensures.ok

pub returns-else-reject : goal.returns-else-reject
returns-else-reject c =
    let P : List (Out Row Fault) → Type 0 = λ outs. Adds c.args.emit.now c.args.emit.now outs in
    subst P (sent_nowhere c.args.cases c.args.place c.args.reject c.args.row c.in-Other.is c.if-reject.false) (Adds-none c.args.emit.now)

pub returns-in-Fails : goal.returns-in-Fails
returns-in-Fails c =
    let P : List (Out Row Fault) → Type 0 = λ outs. Adds c.args.emit.now c.fault.new.self outs in
    subst P (sent_fault c.args.cases c.args.place c.args.reject c.args.row c.in-Fails.fault c.in-Fails.is) c.fault.ensures
