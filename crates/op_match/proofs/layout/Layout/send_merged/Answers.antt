use Rattle.std.proofs.Common.{ap, not}
use Rattle.op_match.proofs.Merging.{merged_all, merged_some}
use Rattle.op_match.proofs.layout.Layout.send_merged.Goals as goal

pub returns-in_ok-send_rejects : goal.returns-in_ok-send_rejects
returns-in_ok-send_rejects c = λ keys v.
    merged_all c.args.self.now keys v c.args.emit.now c.send_masters.new.emit c.send_rejects.new.emit c.args.runs.now c.input-rows.result.now c.updates_of-updates.result.now _ c.if-self.true c.input-rows.ensures c.updates_of-updates.ensures
    (ap not c.is_empty.ensures) c.in_ok-send_masters.ensures c.in_ok-send_rejects.ensures

pub returns-else-self : goal.returns-else-self
returns-else-self c = λ keys v.
    merged_some c.args.self.now keys v c.args.emit.now c.send_masters.new.emit c.args.runs.now c.input-rows.result.now c.updates_of-updates.result.now c.if-self.false c.input-rows.ensures c.updates_of-updates.ensures c.in_ok-send_masters.ensures
