use Rattle.std.proofs.Common.{◌≡◌}
use Rattle.op_match.specs.Merged.{merge_rule_of}
use Rattle.op_match.specs.Rounds.{row_count, TakesOff}
use Rattle.op_match.proofs.merge.Merger.settle.Given as goal

abbrev pub invariant-loop-runs : goal.invariant-loop-runs
invariant-loop-runs l = record {
  taken : TakesOff (merge_rule_of l.fn.self) l.fn.self.sides.list.items l.self.sides.list.items l.fn.emit l.emit;
  layout : l.self.layout ≡ l.fn.self.layout;
  widths : l.self.widths ≡ l.fn.self.widths;
}

abbrev pub decreases-loop-runs : goal.decreases-loop-runs
decreases-loop-runs l = row_count l.self.sides.list.items
