use Rattle.std.proofs.Common.{◌∙◌, ap, arith, length, refl}
use Rattle.op_match.specs.Merged.{merge_rule_of}
use Rattle.op_match.proofs.Rounds.{more_taken, round_by, settled_by}
use Rattle.op_match.proofs.MergeTold.{merged_round}
use Rattle.op_match.proofs.merge.Merger.settle.Goals as goal

pub send_merged-requires : goal.send_merged-requires
send_merged-requires c =
    let round = round_by _ c.in_ok-runs.field-0 c.in-Some.runs c.loop-runs.self.sides.list.items c.take_off.new.self.list.items c.in-Some.is c.in_ok-runs.ensures in
    let same = ap length c.as_slice.ensures.value in
    let long = round.long in
    let few = c.loop-runs.self.sides.numbered in
    omega (arith, same, long, few)

pub loop-runs-preserved : goal.loop-runs-preserved
loop-runs-preserved c = record {
  taken = more_taken (merge_rule_of c.args.self.now) c.args.self.now.sides.list.items c.loop-runs.self.sides.list.items c.take_off.new.self.list.items c.in-Some.runs.items c.args.emit.now c.loop-runs.emit c.send_merged.new.emit c.loop-runs.invariant.taken
      (round_by _ c.in_ok-runs.field-0 c.in-Some.runs c.loop-runs.self.sides.list.items c.take_off.new.self.list.items c.in-Some.is c.in_ok-runs.ensures)
      (merged_round c.args.self.now c.loop-runs.self.layout c.in-Some.runs.items c.as_slice.result.now c.loop-runs.emit c.send_merged.new.emit c.loop-runs.invariant.layout c.as_slice.ensures.value c.in_ok-send_merged.ensures);
  layout = c.loop-runs.invariant.layout;
  widths = c.loop-runs.invariant.widths;
}

pub returns-clause-rows : goal.returns-clause-rows
returns-clause-rows c = (settled_by (merge_rule_of c.args.self.now) _ c.in_ok-runs.field-0 c.args.self.now.sides.list.items c.loop-runs.self.sides.list.items c.take_off.new.self.list.items c.args.emit.now c.loop-runs.emit c.loop-runs.invariant.taken c.in_default.is c.in_ok-runs.ensures).rows

pub returns-clause-emits : goal.returns-clause-emits
returns-clause-emits c = (settled_by (merge_rule_of c.args.self.now) _ c.in_ok-runs.field-0 c.args.self.now.sides.list.items c.loop-runs.self.sides.list.items c.take_off.new.self.list.items c.args.emit.now c.loop-runs.emit c.loop-runs.invariant.taken c.in_default.is c.in_ok-runs.ensures).emits
