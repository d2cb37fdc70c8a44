use Rattle.std.proofs.Common.{◌∙◌, ap, refl}
use Rattle.op_base.specs.Meanings.{input}
use Rattle.op_match.specs.Capturing.{capture_rule}
use Rattle.op_match.proofs.Rounds.{more_taken, round_by, settled_by}
use Rattle.op_match.proofs.Told.{changes_round}
use Rattle.op_match.proofs.captures.Capture.settle.Goals as goal

pub loop-runs-preserved : goal.loop-runs-preserved
loop-runs-preserved c = record {
  taken = more_taken (capture_rule c.args.self.now) c.args.self.now.sides.list.items c.loop-runs.self.sides.list.items c.take_off.new.self.list.items c.in-Some.runs.items c.args.emit.now c.loop-runs.emit c.send_changes.new.emit c.loop-runs.invariant.taken
      (round_by _ c.in_ok-runs.field-0 c.in-Some.runs c.loop-runs.self.sides.list.items c.take_off.new.self.list.items c.in-Some.is c.in_ok-runs.ensures)
      (changes_round c.args.self.now c.loop-runs.self.changes c.in-Some.runs.items c.input.result.now c.input-in-Some.result.now c.loop-runs.emit c.send_changes.new.emit c.loop-runs.invariant.changes
      (c.input.ensures ∙ ap (input 0) c.as_slice-runs.ensures.value) (c.input-in-Some.ensures ∙ ap (input 1) c.as_slice-runs.ensures.value) c.in_ok-send_changes.ensures);
  changes = c.loop-runs.invariant.changes;
}

pub returns-clause-rows : goal.returns-clause-rows
returns-clause-rows c = (settled_by (capture_rule c.args.self.now) _ c.in_ok-runs.field-0 c.args.self.now.sides.list.items c.loop-runs.self.sides.list.items c.take_off.new.self.list.items c.args.emit.now c.loop-runs.emit c.loop-runs.invariant.taken c.in_default.is c.in_ok-runs.ensures).rows

pub returns-clause-emits : goal.returns-clause-emits
returns-clause-emits c = (settled_by (capture_rule c.args.self.now) _ c.in_ok-runs.field-0 c.args.self.now.sides.list.items c.loop-runs.self.sides.list.items c.take_off.new.self.list.items c.args.emit.now c.loop-runs.emit c.loop-runs.invariant.taken c.in_default.is c.in_ok-runs.ensures).emits
